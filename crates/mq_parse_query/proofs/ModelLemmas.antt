-- Where the pieces of a MODEL clause and of a query read nothing, by their parts, and how they are put together.
use Rattle.std.proofs.Common.{◌≡◌, ◌≢◌, ℕ, ◌+◌, ◌<◌, ◌≤◌, Bool, List, ◌∷◌, length, refl, sym, ap, ◌∙◌, subst, arith}
use Rattle.std.specs.Prelude.{Option, Some, None, MatchOption}
use Rattle.mq_lexer.specs.declared.sorts.Token.{Token}
use Rattle.mq_ast.specs.declared.queries.Opt.{Opt}
use Rattle.mq_ast.specs.declared.queries.Plain.{Plain}
use Rattle.mq_ast.specs.declared.queries.RefTree.{RefTree}
use Rattle.mq_ast.specs.declared.queries.Sel.{Sel}
use Rattle.mq_lexer.specs.declared.terminals.Terminal.{Terminal}
use Rattle.mq_ast.specs.declared.clauses.TheConstants as clause
use Rattle.mq_ast.specs.declared.queries.Opt.TheVariants as opt
use Rattle.mq_lexer.specs.declared.terminals.Symbol.TheVariants as sign
use Rattle.mq_lexer.specs.declared.terminals.Terminal.TheVariants as terminal
use Rattle.mq_lexer.specs.declared.keywords.Keyword.TheVariants as word
use Rattle.mq_ast.specs.Prelude.{AxesE, Cols, DimsE, MainE, ManyOf, Name, NameE, Not, OptE, PartsE, Past, RefE, RefSourceE, ReturnE}
use Rattle.mq_ast.specs.Prelude.{Tok, WhichE, Word, axes, dims, main_none, main_some, many_end, many_more, name, opener, opt_ignore}
use Rattle.mq_ast.specs.Prelude.{opt_keep, opt_unique, part, parts_none, parts_some, ref_source, reference, return_none}
use Rattle.mq_ast.specs.Prelude.{return_rows, terminal_at, which_all, which_updated}
use Rattle.mq_ast.specs.Laws.{axes_same, begin, cols_same, cut, dims_same, ref_source_same, refs_past, which_same}
use Rattle.mq_parse_words.specs.StepLemmas.{till}
use Rattle.mq_parse_query.specs.Pieces.{PlainEnd, Refers, Returns, first_word, option_of, second_word}
use Rattle.mq_parse_words.specs.Reading.{from, Then, No, Anywhere}
use Rattle.mq_parse_words.specs.TokenLemmas.{word_next}

-- options
option_past : (x : Terminal) → option_of x ≡ None → clause.OPTION < part x
option_past (terminal.Word word.Ignore) e = absurd cc
option_past (terminal.Word word.Keep) e = absurd cc
option_past (terminal.Word word.Unique) e = absurd cc
option_past (terminal.Word word.Abs) e = omega arith
option_past (terminal.Sign (sign.Cmp _)) e = omega arith
option_past (terminal.Sign (sign.Sum _)) e = omega arith
option_past (terminal.Sign (sign.Prod _)) e = omega arith
option_past _ e = omega arith

option_word : (x : Terminal) (o : Opt) → Some o ≡ option_of x → x ≡ terminal.Word (first_word o)
option_word (terminal.Word word.Ignore) o e = cc
option_word (terminal.Word word.Keep) o e = cc
option_word (terminal.Word word.Unique) o e = cc
option_word _ o e = absurd cc

pub option_found : (t : List Token) (at : ℕ) (x : Terminal) (r : Option Opt) → x ≡ terminal_at (from t at) → (x ≢ terminal.Nothing → at < length t) → r ≡ option_of x → MatchOption r (Past clause.OPTION (from t at)) (λ o. Then (Word (first_word o)) t at (at + 1))
option_found t at x None k i e = let P : Terminal → Type 0 = λ y. clause.OPTION < part y in subst P k (option_past x (sym e))
option_found t at x (Some o) k i e =
    let w = option_word x o e in
    let b : at < length t = i (λ z. cc) in
    (refl, omega (arith, b), word_next t at (first_word o) (sym k ∙ w))

pub option_no_second : (o : Opt) {ts : List Tok} → Not (terminal.Word (second_word o)) ts → No (ManyOf OptE) (Past clause.OPTION) (Word (first_word o) ∷ ts)
option_no_second opt.IgnoreNav n a to many_end s = absurd (omega arith)
option_no_second opt.KeepNav n a to many_end s = absurd (omega arith)
option_no_second opt.UniqueDimension n a to many_end s = absurd (omega arith)
option_no_second opt.IgnoreNav n a to (many_more opt_ignore ds) s = n refl
option_no_second opt.KeepNav n a to (many_more opt_keep ds) s = n refl
option_no_second opt.UniqueDimension n a to (many_more opt_unique ds) s = n refl

pub option_whole : (o : Opt) {ts : List Tok} → OptE o (Word (first_word o) ∷ Word (second_word o) ∷ ts) ts
option_whole opt.IgnoreNav = opt_ignore
option_whole opt.KeepNav = opt_keep
option_whole opt.UniqueDimension = opt_unique

-- RETURN (ALL | UPDATED) ROWS
pub which_no_word : {ts : List Tok} → Not (terminal.Word word.All) ts → Not (terminal.Word word.Updated) ts → No WhichE Anywhere ts
which_no_word m n a to which_all s = m refl
which_no_word m n a to which_updated s = n refl

pub rows_no_which : {ts : List Tok} → No WhichE Anywhere ts → No Returns (Past clause.RETURN) ts
rows_no_which h a to return_none s = absurd (omega arith)
rows_no_which h a to (return_rows d) s = h _ _ d tt

pub rows_no_rows : {b : Bool} {ts mid : List Tok} → WhichE b ts mid → Not (terminal.Word word.Rows) mid → No Returns (Past clause.RETURN) ts
rows_no_rows e n a to return_none s = absurd (omega arith)
rows_no_rows e n a to (return_rows d) s = n (ap terminal_at (which_same e d).1)

pub rows_no_end : {b : Bool} {ts mid : List Tok} (next : List Tok) → WhichE b ts mid → mid ≡ Word word.Rows ∷ next → part (terminal_at next) ≤ clause.RETURN → No Returns (Past clause.RETURN) ts
rows_no_end next e f l a to return_none s = absurd (omega arith)
rows_no_end next e f l a to (return_rows d) s =
    let k = ap (λ x. part (terminal_at x)) (cut (sym f ∙ (which_same e d).1)) in absurd (omega arith)

pub rows_whole : {b : Bool} {ts mid to : List Tok} → WhichE b ts mid → mid ≡ Word word.Rows ∷ to → Returns b ts to
rows_whole e f = return_rows (till WhichE f e)

pub return_no_end : {ts : List Tok} → Not (terminal.Word word.Return) ts → part (terminal_at ts) ≤ clause.RETURN → No ReturnE (Past clause.RETURN) ts
return_no_end n l a to return_none s = absurd (omega arith)
return_no_end n l a to (return_rows d) s = n refl

-- REFERENCE
pub source_no_name : {ts : List Tok} → No NameE Anywhere ts → No RefSourceE Anywhere ts
source_no_name h a to (ref_source d) s = h _ _ name tt

pub source_no_on : {n : List ℕ} {ts : List Tok} → Not (terminal.Word word.On) ts → No RefSourceE Anywhere (Name n ∷ ts)
source_no_on n a to (ref_source d) s = n refl

pub source_no_open : {n : List ℕ} {ts : List Tok} → Not (terminal.Sign sign.Open) ts → No RefSourceE Anywhere (Name n ∷ Word word.On ∷ ts)
source_no_open n a to (ref_source d) s = n refl

pub source_no_plain : {n : List ℕ} {ts : List Tok} → No PlainEnd Anywhere ts → No RefSourceE Anywhere (Name n ∷ Word word.On ∷ opener ∷ ts)
source_no_plain h a to (ref_source d) s = h _ _ d tt

-- DIMENSION BY cols MEASURES cols
pub dims_no_dimension : {ts : List Tok} → Not (terminal.Word word.Dimension) ts → No DimsE Anywhere ts
dims_no_dimension n a to (dims d) s = n refl

pub dims_no_by : {ts : List Tok} → Not (terminal.Word word.By) ts → No DimsE Anywhere (Word word.Dimension ∷ ts)
dims_no_by n a to (dims d) s = n refl

pub dims_no_cols : {ts : List Tok} → No Cols Anywhere ts → No DimsE Anywhere (Word word.Dimension ∷ Word word.By ∷ ts)
dims_no_cols h a to (dims d) s = h _ _ d tt

pub dims_no_measures : {xs : List Sel} {ts mid : List Tok} → Cols xs ts mid → Not (terminal.Word word.Measures) mid → No DimsE Anywhere (Word word.Dimension ∷ Word word.By ∷ ts)
dims_no_measures e n a to (dims d) s = let p = cols_same e d in n (ap terminal_at p.1)

pub axes_no_dims : {ts : List Tok} → No DimsE Anywhere ts → No AxesE Anywhere ts
axes_no_dims h a to (axes d m) s = h _ _ d tt

pub axes_no_cols : {xs : List Sel} {ts mid : List Tok} → DimsE xs ts mid → No Cols Anywhere mid → No AxesE Anywhere ts
axes_no_cols e h a to (axes d m) s = let p = dims_same e d in h _ _ (begin Cols p.1 m) tt

pub ref_no_source : {ts : List Tok} → No RefSourceE Anywhere ts → No Refers (Past clause.OPTION) ts
ref_no_source h a to (reference d x o) s = h _ _ d tt

pub ref_no_axes : {x : List ℕ × Plain} {ts mid : List Tok} → RefSourceE x ts mid → No AxesE Anywhere mid → No Refers (Past clause.OPTION) ts
ref_no_axes e h a to (reference d x o) s = h _ _ (begin AxesE (ref_source_same e d).1 x) tt

pub ref_no_opts : {x : List ℕ × Plain} {y : List Sel × List Sel} {ts mid next : List Tok} → RefSourceE x ts mid → AxesE y mid next → No (ManyOf OptE) (Past clause.OPTION) next → No Refers (Past clause.OPTION) ts
ref_no_opts e f h a to (reference d x o) s =
    let q = axes_same f (begin AxesE (ref_source_same e d).1 x) in
    h _ _ (begin (ManyOf OptE) q.1 o) s

refs_past_one : {rs : List RefTree} {ts to : List Tok} → ManyOf RefE rs ts to → Past clause.REFERENCE to → Past clause.OPTION ts
refs_past_one d s = let h = refs_past d s in omega arith

pub refs_no_ref : {ts : List Tok} → No Refers (Past clause.OPTION) ts → No (ManyOf RefE) (Past clause.REFERENCE) (Word word.Reference ∷ ts)
refs_no_ref h a to many_end s = absurd (omega arith)
refs_no_ref h a to (many_more d ds) s = h _ _ d (refs_past_one ds s)

pub refs_no_end : {ts : List Tok} → Not (terminal.Word word.Reference) ts → part (terminal_at ts) ≤ clause.REFERENCE → No (ManyOf RefE) (Past clause.REFERENCE) ts
refs_no_end n l a to many_end s = absurd (omega arith)
refs_no_end n l a to (many_more (reference d x o) ds) s = n refl

-- MAIN and PARTITION BY
pub main_no_name : {ts : List Tok} → No NameE Anywhere ts → No MainE (Past clause.MAIN) (Word word.Main ∷ ts)
main_no_name h a to main_none s = absurd (omega arith)
main_no_name h a to main_some s = h _ _ name tt

pub main_no_end : {n : List ℕ} {ts : List Tok} → part (terminal_at ts) ≤ clause.MAIN → No MainE (Past clause.MAIN) (Word word.Main ∷ Name n ∷ ts)
main_no_end l a to main_none s = absurd (omega arith)
main_no_end l a to main_some s = absurd (omega arith)

pub main_no_word : {ts : List Tok} → Not (terminal.Word word.Main) ts → part (terminal_at ts) ≤ clause.MAIN → No MainE (Past clause.MAIN) ts
main_no_word n l a to main_none s = absurd (omega arith)
main_no_word n l a to main_some s = n refl

pub parts_no_by : {ts : List Tok} → Not (terminal.Word word.By) ts → No PartsE (Past clause.PARTITION) (Word word.Partition ∷ ts)
parts_no_by n a to parts_none s = absurd (omega arith)
parts_no_by n a to (parts_some d) s = n refl

pub parts_no_cols : {ts : List Tok} → No Cols Anywhere ts → No PartsE (Past clause.PARTITION) (Word word.Partition ∷ Word word.By ∷ ts)
parts_no_cols h a to parts_none s = absurd (omega arith)
parts_no_cols h a to (parts_some d) s = h _ _ d tt

pub parts_no_end : {xs : List Sel} {ts : List Tok} (mid : List Tok) → Cols xs ts mid → part (terminal_at mid) ≤ clause.PARTITION → No PartsE (Past clause.PARTITION) (Word word.Partition ∷ Word word.By ∷ ts)
parts_no_end mid e l a to parts_none s = absurd (omega arith)
parts_no_end mid e l a to (parts_some d) s = let k = ap (λ x. part (terminal_at x)) (cols_same e d).1 in absurd (omega arith)

pub parts_no_word : {ts : List Tok} → Not (terminal.Word word.Partition) ts → part (terminal_at ts) ≤ clause.PARTITION → No PartsE (Past clause.PARTITION) ts
parts_no_word n l a to parts_none s = absurd (omega arith)
parts_no_word n l a to (parts_some d) s = n refl
