-- Where the pieces of the head of `rules` read nothing, by their parts, and how they are put together.
use Rattle.std.proofs.Common.{◌≤◌, Bool, true, false, List, ◌∷◌, refl, ap, ◌∙◌, arith}
use Rattle.std.specs.Prelude.{Option, Some}
use Rattle.mq_values.specs.Number.{Number}
use Rattle.mq_values.specs.declared.operators.Mode.{Mode}
use Rattle.mq_ast.specs.declared.expressions.E.{E}
use Rattle.mq_ast.specs.declared.clauses.TheConstants as clause
use Rattle.mq_lexer.specs.declared.terminals.Symbol.TheVariants as sign
use Rattle.mq_lexer.specs.declared.terminals.Terminal.TheVariants as terminal
use Rattle.mq_lexer.specs.declared.keywords.Keyword.TheVariants as word
use Rattle.mq_ast.specs.Prelude.{AutoE, HeadE, IterateE, MaybeMode, Not, Num, Opens, Past, RoundInt, Tok, UntilE, Word, auto_no}
use Rattle.mq_ast.specs.Prelude.{auto_none, auto_yes, head_none, head_some, iterate_none, iterate_some, opener, part, round_int}
use Rattle.mq_ast.specs.Prelude.{terminal_at, until_none, until_some}
use Rattle.mq_ast.specs.Laws.{auto_past, auto_same, begin, cut, expr_same, int_same, iterate_past, iterate_same, maybe_mode_same}
use Rattle.mq_ast.specs.Laws.{opens_past}
use Rattle.mq_parse_query.specs.Pieces.{AutoEnd, Iterates, Ruling, auto_end}
use Rattle.mq_parse_words.specs.Reading.{No, Anywhere}
use Rattle.mq_parse_words.specs.Names.{IntE, int}
use Rattle.mq_parse_words.specs.Fronts.{RoundE, round}

-- the order of the rules
pub auto_no_order : {b : Bool} {ts : List Tok} → Not (terminal.Word word.Order) ts → No (AutoEnd b) (Past clause.ORDER) ts
auto_no_order n a to auto_end s = n refl

pub auto_no_end : {b : Bool} {ts : List Tok} → part (terminal_at ts) ≤ clause.ORDER → No (AutoEnd b) (Past clause.ORDER) (Word word.Order ∷ ts)
auto_no_end l a to auto_end s = absurd (omega arith)

pub auto_no_yes : {ts : List Tok} → No (AutoEnd true) (Past clause.ORDER) ts → No AutoE (Past clause.ORDER) (Word word.Automatic ∷ ts)
auto_no_yes h a to auto_none s = absurd (omega arith)
auto_no_yes h a to auto_yes s = h _ _ auto_end s

pub auto_no_no : {ts : List Tok} → No (AutoEnd false) (Past clause.ORDER) ts → No AutoE (Past clause.ORDER) (Word word.Sequential ∷ ts)
auto_no_no h a to auto_none s = absurd (omega arith)
auto_no_no h a to auto_no s = h _ _ auto_end s

pub yes_auto : {b : Bool} {ts to : List Tok} → AutoEnd true b ts to → AutoE b (Word word.Automatic ∷ ts) to
yes_auto auto_end = auto_yes

pub no_auto : {b : Bool} {ts to : List Tok} → AutoEnd false b ts to → AutoE b (Word word.Sequential ∷ ts) to
no_auto auto_end = auto_no

pub auto_no_word : {ts : List Tok} → Not (terminal.Word word.Automatic) ts → Not (terminal.Word word.Sequential) ts → part (terminal_at ts) ≤ clause.ORDER → No AutoE (Past clause.ORDER) ts
auto_no_word m n l a to auto_none s = absurd (omega arith)
auto_no_word m n l a to auto_yes s = m refl
auto_no_word m n l a to auto_no s = n refl

-- UNTIL
pub until_no_round : {ts : List Tok} → No RoundE Anywhere ts → No UntilE (Past clause.UNTIL) (Word word.Until ∷ ts)
until_no_round h a to until_none s = absurd (omega arith)
until_no_round h a to (until_some d) s = h _ _ (round d) tt

pub until_no_end : {x : E} {ts : List Tok} (mid : List Tok) → RoundE x ts mid → part (terminal_at mid) ≤ clause.UNTIL → No UntilE (Past clause.UNTIL) (Word word.Until ∷ ts)
until_no_end mid e l a to until_none s = absurd (omega arith)
until_no_end mid (round e) l a to (until_some d) s =
    let p = expr_same e d (omega arith) (omega arith) in
    let k = ap (λ x. part (terminal_at x)) (cut p.1) in absurd (omega arith)

pub until_no_word : {ts : List Tok} → Not (terminal.Word word.Until) ts → part (terminal_at ts) ≤ clause.UNTIL → No UntilE (Past clause.UNTIL) ts
until_no_word n l a to until_none s = absurd (omega arith)
until_no_word n l a to (until_some d) s = n refl

pub until_whole : {x : E} {ts to : List Tok} → RoundE x ts to → UntilE (Some x) (Word word.Until ∷ ts) to
until_whole (round d) = until_some d

-- ITERATE
pub int_no_open : {ts : List Tok} → Not (terminal.Sign sign.Open) ts → No RoundInt Anywhere ts
int_no_open n a to (round_int i) s = n refl

pub int_no_int : {ts : List Tok} → No IntE Anywhere ts → No RoundInt Anywhere (opener ∷ ts)
int_no_int h a to (round_int i) s = h _ _ (int i) tt

pub int_no_close : {n : Number} {ts : List Tok} → Not (terminal.Sign sign.Close) ts → No RoundInt Anywhere (opener ∷ Num n ∷ ts)
int_no_close h a to (round_int i) s = h refl

pub turns_no_int : {ts : List Tok} → No RoundInt Anywhere ts → No Iterates (Past clause.UNTIL) ts
turns_no_int h a to iterate_none s = absurd (omega arith)
turns_no_int h a to (iterate_some i d) s = h _ _ i tt

pub turns_no_until : {n : Number} {ts mid : List Tok} → RoundInt n ts mid → No UntilE (Past clause.UNTIL) mid → No Iterates (Past clause.UNTIL) ts
turns_no_until e h a to iterate_none s = absurd (omega arith)
turns_no_until e h a to (iterate_some i d) s = h _ _ (begin UntilE (int_same e i).1 d) s

pub turning_no_word : {ts : List Tok} → Not (terminal.Word word.Iterate) ts → part (terminal_at ts) ≤ clause.UNTIL → No IterateE (Past clause.UNTIL) ts
turning_no_word n l a to iterate_none s = absurd (omega arith)
turning_no_word n l a to (iterate_some i d) s = n refl

-- RULES
pub ruling_no_mode : {ts : List Tok} → No MaybeMode (Past clause.MODE) ts → No Ruling Opens ts
ruling_no_mode h a to head_none s = absurd cc
ruling_no_mode h a to (head_some m b n) s = h _ _ m (auto_past b (iterate_past n (opens_past to s)))

pub ruling_no_auto : {x : Option Mode} {ts mid : List Tok} → MaybeMode x ts mid → Past clause.MODE mid → No AutoE (Past clause.ORDER) mid → No Ruling Opens ts
ruling_no_auto e r h a to head_none s = absurd cc
ruling_no_auto e r h a to (head_some m b n) s =
    let i = iterate_past n (opens_past to s) in
    let p = maybe_mode_same e m r (auto_past b i) in
    h _ _ (begin AutoE p.1 b) i

pub ruling_no_iterate : {x : Option Mode} {y : Bool} {ts mid next : List Tok} → MaybeMode x ts mid → Past clause.MODE mid → AutoE y mid next → Past clause.ORDER next → No IterateE (Past clause.UNTIL) next → No Ruling Opens ts
ruling_no_iterate e r f r' h a to head_none s = absurd cc
ruling_no_iterate e r f r' h a to (head_some m b n) s =
    let i = iterate_past n (opens_past to s) in
    let p = maybe_mode_same e m r (auto_past b i) in
    let q = auto_same f (begin AutoE p.1 b) r' i in
    h _ _ (begin IterateE q.1 n) (opens_past to s)

pub ruling_no_open : {x : Option Mode} {y : Bool} {z : Option Number × Option E} {ts mid next last : List Tok} → MaybeMode x ts mid → Past clause.MODE mid → AutoE y mid next → Past clause.ORDER next → IterateE z next last → Past clause.UNTIL last → Not (terminal.Sign sign.Open) last → No Ruling Opens ts
ruling_no_open e r f r' g r'' k a to head_none s = absurd cc
ruling_no_open e r f r' g r'' k a to (head_some m b n) s =
    let i = iterate_past n (opens_past to s) in
    let p = maybe_mode_same e m r (auto_past b i) in
    let q = auto_same f (begin AutoE p.1 b) r' i in
    let u = iterate_same _ _ _ _ _ g (begin IterateE q.1 n) r'' (opens_past to s) in
    k (ap terminal_at u.1 ∙ s)

pub heading_no_open : {ts : List Tok} → Not (terminal.Word word.Rules) ts → Not (terminal.Sign sign.Open) ts → No HeadE Opens ts
heading_no_open m n a to head_none s = n s
heading_no_open m n a to (head_some d e f) s = m refl
