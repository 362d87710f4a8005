-- Where the plain part of a query reads nothing behind its columns and its items of FROM. All of it is about lists of tokens.
use Rattle.std.proofs.Common.{◌≤◌, List, [], ◌∷◌, refl, ap, arith}
use Rattle.std.specs.Prelude.{Option}
use Rattle.mq_ast.specs.declared.expressions.E.{E}
use Rattle.mq_ast.specs.declared.queries.FromItem.{FromItem}
use Rattle.mq_ast.specs.declared.expressions.Path.{Path}
use Rattle.mq_ast.specs.declared.queries.Sel.{Sel}
use Rattle.mq_ast.specs.declared.parts.Shown.{Shown}
use Rattle.mq_ast.specs.declared.levels.TheConstants as level
use Rattle.mq_lexer.specs.declared.terminals.Terminal.TheVariants as terminal
use Rattle.mq_lexer.specs.declared.keywords.Keyword.TheVariants as word
use Rattle.mq_ast.specs.Prelude.{EndsList, Expr, FromE, GroupE, Not, PathE, PlainE, SelE, ShownE, SomeOf, SourceE, Stops, Tok, WhereE}
use Rattle.mq_ast.specs.Prelude.{Word, group_none, group_some, loose, plain, shown_list, shown_star, source, star, terminal_at}
use Rattle.mq_ast.specs.Prelude.{where_none, where_some}
use Rattle.mq_ast.specs.Laws.{begin, ends_paths, expr_same, from_same, group_stop, paths_same, sels_no_star, sels_same, shown_same}
use Rattle.mq_ast.specs.Laws.{where_same, where_stop}
use Rattle.mq_parse_words.specs.Reading.{No, Anywhere}

-- [WHERE e]
pub where_no_where : {ts : List Tok} → Not (terminal.Word word.Where) ts → loose (terminal_at ts) ≤ level.FILTERED → No WhereE (Stops level.FILTERED) ts
where_no_where n l a to where_none s = absurd (omega arith)
where_no_where n l a to (where_some d) s = n refl

pub where_no_expr : {ts : List Tok} → No Expr (Stops level.EXPRESSION) ts → No WhereE (Stops level.FILTERED) (Word word.Where ∷ ts)
where_no_expr h a to where_none s = absurd (omega arith)
where_no_expr h a to (where_some d) s = h _ _ d (omega arith)

pub where_no_end : {x : E} {ts : List Tok} (mid : List Tok) → Expr x ts mid → Stops level.EXPRESSION mid → loose (terminal_at mid) ≤ level.FILTERED → No WhereE (Stops level.FILTERED) (Word word.Where ∷ ts)
where_no_end mid e r l a to where_none s = absurd (omega arith)
where_no_end mid e r l a to (where_some d) s =
    let p = expr_same e d r (omega arith) in let k = ap (λ x. loose (terminal_at x)) p.1 in absurd (omega arith)

-- [GROUP BY path {, path}]
pub group_no_group : {ts : List Tok} → Not (terminal.Word word.Group) ts → loose (terminal_at ts) ≤ level.PLAIN → No GroupE (Stops level.PLAIN) ts
group_no_group n l a to group_none s = absurd (omega arith)
group_no_group n l a to (group_some d) s = n refl

pub group_no_by : {ts : List Tok} → Not (terminal.Word word.By) ts → No GroupE (Stops level.PLAIN) (Word word.Group ∷ ts)
group_no_by n a to group_none s = absurd (omega arith)
group_no_by n a to (group_some d) s = n refl

pub group_no_paths : {ts : List Tok} → No (SomeOf PathE) (EndsList (Stops level.PATH)) ts → No GroupE (Stops level.PLAIN) (Word word.Group ∷ Word word.By ∷ ts)
group_no_paths h a to group_none s = absurd (omega arith)
group_no_paths h a to (group_some d) s = h _ _ d (ends_paths _ s)

pub group_no_end : {xs : List Path} {ts : List Tok} (mid : List Tok) → SomeOf PathE xs ts mid → EndsList (Stops level.PATH) mid → loose (terminal_at mid) ≤ level.PLAIN → No GroupE (Stops level.PLAIN) (Word word.Group ∷ Word word.By ∷ ts)
group_no_end mid e r l a to group_none s = absurd (omega arith)
group_no_end mid e r l a to (group_some d) s =
    let p = paths_same e d r (ends_paths _ s) in let k = ap (λ x. loose (terminal_at x)) p.1 in absurd (omega arith)

-- (* | sel {, sel}) FROM
pub shown_no_star : {ts : List Tok} → Not (terminal.Word word.From) ts → No ShownE Anywhere (star ∷ ts)
shown_no_star n a to shown_star s = n refl
shown_no_star n a to (shown_list d) s = absurd (sels_no_star d)

pub shown_no_from : {xs : List Sel} {ts mid : List Tok} → Not (terminal_at (star ∷ [])) ts → SomeOf SelE xs ts mid → EndsList (Stops level.ITEM) mid → Not (terminal.Word word.From) mid → No ShownE Anywhere ts
shown_no_from n e r m a to shown_star s = n refl
shown_no_from n e r m a to (shown_list d) s = let p = sels_same e d r (omega arith, λ e. cc) in m (ap terminal_at p.1)

-- from [WHERE e] [GROUP BY path {, path}]
pub source_no_from : {ts : List Tok} → No FromE (Stops level.SOURCES) ts → No SourceE (Stops level.PLAIN) ts
source_no_from h a to (source f w g) s = h _ _ f (where_stop w (group_stop g s))

pub source_no_where : {fs : List FromItem} {ts mid : List Tok} → FromE fs ts mid → Stops level.SOURCES mid → No WhereE (Stops level.FILTERED) mid → No SourceE (Stops level.PLAIN) ts
source_no_where e r h a to (source f w g) s =
    let u = group_stop g s in
    let p = from_same e f r (where_stop w u) in h _ _ (begin WhereE p.1 w) u

pub source_no_group : {fs : List FromItem} {o : Option E} {ts mid last : List Tok} → FromE fs ts mid → Stops level.SOURCES mid → WhereE o mid last → Stops level.FILTERED last → No GroupE (Stops level.PLAIN) last → No SourceE (Stops level.PLAIN) ts
source_no_group e r v q h a to (source f w g) s =
    let u = group_stop g s in
    let p = from_same e f r (where_stop w u) in
    let k = where_same v (begin WhereE p.1 w) q u in h _ _ (begin GroupE k.1 g) s

-- SELECT and both
pub plain_no_select : {ts : List Tok} → Not (terminal.Word word.Select) ts → No PlainE (Stops level.PLAIN) ts
plain_no_select n a to (plain d f) s = n refl

pub plain_no_shown : {ts : List Tok} → No ShownE Anywhere ts → No PlainE (Stops level.PLAIN) (Word word.Select ∷ ts)
plain_no_shown h a to (plain d f) s = h _ _ d tt

pub plain_no_source : {x : Shown} {ts mid : List Tok} → ShownE x ts mid → No SourceE (Stops level.PLAIN) mid → No PlainE (Stops level.PLAIN) (Word word.Select ∷ ts)
plain_no_source e h a to (plain d f) s = h _ _ (begin SourceE (shown_same e d).1 f) s
