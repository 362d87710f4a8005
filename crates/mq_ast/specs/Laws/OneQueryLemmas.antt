-- Two queries without MODEL that read the same tokens are equal.
use Rattle.std.proofs.Common.{◌≡◌, ℕ, List, ◌∷◌, refl, ap, arith}
use Rattle.std.specs.Prelude.{Option, None, Some}
use Rattle.mq_ast.specs.declared.expressions.Path.{Path}
use Rattle.mq_ast.specs.declared.expressions.E.{E}
use Rattle.mq_ast.specs.declared.queries.Sel.{Sel}
use Rattle.mq_ast.specs.declared.queries.FromItem.{FromItem}
use Rattle.mq_ast.specs.declared.queries.OrderKey.{OrderKey}
use Rattle.mq_ast.specs.declared.queries.Plain.{Plain}
use Rattle.mq_ast.specs.declared.parts.Shown.{Shown}
use Rattle.mq_lexer.specs.declared.keywords.Keyword.TheVariants as word
use Rattle.mq_lexer.specs.declared.terminals.Symbol.TheVariants as sign
use Rattle.mq_lexer.specs.declared.terminals.Terminal.TheVariants as terminal
use Rattle.mq_ast.specs.Tokens.{Tok, terminal_at, star}
use Rattle.mq_ast.specs.declared.levels.TheConstants as level
use Rattle.mq_ast.specs.Continuing.{Stops, Not, EndsKey, EndsKeys}
use Rattle.mq_ast.specs.OneTree.{OneTree}
use Rattle.mq_ast.specs.GrammarNames.{PathE}
use Rattle.mq_ast.specs.GrammarLists.{SomeOf, some_of, ManyOf}
use Rattle.mq_ast.specs.GrammarExpression.{Expr}
use Rattle.mq_ast.specs.GrammarQuery.{AliasE, alias_none, alias_as, alias_name, SelE, sel, Cols, cols, ItemE, item}
use Rattle.mq_ast.specs.GrammarQuery.{front_comma, front_cross, front_join, front_inner, condition, OnE, on_item, JoinE, join_bare, join_on, FromE, items}
use Rattle.mq_ast.specs.GrammarQuery.{ShownE, shown_star, shown_list, WhereE, where_none, where_some, GroupE, group_none, group_some, SourceE, source, PlainE, plain}
use Rattle.mq_ast.specs.GrammarQuery.{DirectionE, direction_none, direction_asc, direction_desc, KeyE, key, OrderE, order_none, order_some}
use Rattle.mq_ast.specs.Laws.CommonLemmas.{Same, begin, cut}
use Rattle.mq_ast.specs.Laws.OneExpressionLemmas.{expr_same, expr_no_star, path_same}
use Rattle.mq_ast.specs.Laws.OneListLemmas.{some_same, many_same, many_stop, stops_not}

-- aliases and items of lists

pub alias_same : {o o' : Option (List ℕ)} {from to to' : List Tok} → AliasE o from to → AliasE o' from to' → Stops level.ITEM to → Stops level.ITEM to' → Same o o' to to'
alias_same alias_none alias_none s s' = (refl, refl)
alias_same alias_none alias_as s s' = absurd (omega arith)
alias_same alias_none alias_name s s' = absurd (omega arith)
alias_same alias_as alias_none s s' = absurd (omega arith)
alias_same alias_name alias_none s s' = absurd (omega arith)
alias_same alias_as alias_as s s' = (refl, refl)
alias_same alias_name alias_name s s' = (refl, refl)

pub alias_stop : {o : Option (List ℕ)} {from to : List Tok} → AliasE o from to → Stops level.ITEM to → Stops level.EXPRESSION from
alias_stop alias_none s = omega arith
alias_stop alias_as s = omega arith
alias_stop alias_name s = omega arith

pub sel_same : OneTree SelE (Stops level.ITEM)
sel_same _ _ _ _ _ (sel d o) (sel d' o') s s' =
    let p = expr_same d d' (alias_stop o s) (alias_stop o' s') in
    let q = alias_same o (begin AliasE p.1 o') s s' in
    (cc, q.1)

-- the end of a list of items
abbrev pub EndsSels : List Tok → Type 0
EndsSels ts = Stops level.ITEM ts × Not (terminal.Sign sign.Comma) ts

pub sels_same : {xs xs' : List Sel} {from to to' : List Tok} → SomeOf SelE xs from to → SomeOf SelE xs' from to' → EndsSels to → EndsSels to' → Same xs xs' to to'
sels_same = some_same Sel SelE (Stops level.ITEM) EndsSels sel_same (λ ts s. s.0) (λ ts. omega arith) (λ a ts mid s d. s.1 refl)

pub cols_same : {xs xs' : List Sel} {from to to' : List Tok} → Cols xs from to → Cols xs' from to' → Same xs xs' to to'
cols_same (cols d) (cols d') = let p = sels_same d d' (omega arith, λ e. cc) (omega arith, λ e. cc) in (p.0, cut p.1)

-- FROM

pub item_same : {on on' : Option E} {i i' : FromItem} {from to to' : List Tok} → ItemE on i from to → ItemE on' i' from to' → Stops level.ITEM to → Stops level.ITEM to' → (on ≡ on' → i ≡ i') × (to ≡ to')
item_same (item d) (item d') s s' = let p = alias_same d d' s s' in ((λ e. cc), p.1)

pub on_same : OneTree OnE (Stops level.ITEM)
on_same _ _ _ _ _ (on_item d (condition f)) (on_item d' (condition f')) s s' =
    let p = item_same d d' (omega arith) (omega arith) in
    let q = expr_same f (begin Expr (cut p.1) f') (omega arith) (omega arith) in
    (p.0 (ap Some q.0), q.1)

bare_item_same : {i i' : FromItem} {from to to' : List Tok} → ItemE None i from to → ItemE None i' from to' → Stops level.ITEM to → Stops level.ITEM to' → Same i i' to to'
bare_item_same d d' s s' = let p = item_same d d' s s' in (p.0 refl, p.1)

pub join_same : OneTree JoinE (Stops level.ITEM)
join_same _ _ _ _ _ (join_bare front_comma d) (join_bare front_comma d') s s' = bare_item_same d d' s s'
join_same _ _ _ _ _ (join_bare front_cross d) (join_bare front_cross d') s s' = bare_item_same d d' s s'
join_same _ _ _ _ _ (join_bare front_comma d) (join_on o' d') s s' = elim o' [ ]
join_same _ _ _ _ _ (join_bare front_cross d) (join_on o' d') s s' = elim o' [ ]
join_same _ _ _ _ _ (join_on front_join d) (join_bare b' d') s s' = elim b' [ ]
join_same _ _ _ _ _ (join_on front_inner d) (join_bare b' d') s s' = elim b' [ ]
join_same _ _ _ _ _ (join_on front_join d) (join_on front_join d') s s' = on_same _ _ _ _ _ d d' s s'
join_same _ _ _ _ _ (join_on front_inner d) (join_on front_inner d') s s' = on_same _ _ _ _ _ d d' s s'

pub join_begins : (i : FromItem) (from to : List Tok) → JoinE i from to → Stops level.ITEM from
join_begins _ _ _ (join_bare front_comma d) = omega arith
join_begins _ _ _ (join_bare front_cross d) = omega arith
join_begins _ _ _ (join_on front_join d) = omega arith
join_begins _ _ _ (join_on front_inner d) = omega arith

pub join_not_stop : (i : FromItem) (from to : List Tok) → Stops level.SOURCES from → JoinE i from to → ⊥
join_not_stop _ _ _ s (join_bare front_comma d) = absurd (omega arith)
join_not_stop _ _ _ s (join_bare front_cross d) = absurd (omega arith)
join_not_stop _ _ _ s (join_on front_join d) = absurd (omega arith)
join_not_stop _ _ _ s (join_on front_inner d) = absurd (omega arith)

pub joins_stop : {xs : List FromItem} {from to : List Tok} → ManyOf JoinE xs from to → Stops level.SOURCES to → Stops level.ITEM from
joins_stop = many_stop FromItem JoinE (Stops level.ITEM) (Stops level.SOURCES) join_same (λ ts s. omega arith) join_begins join_not_stop

pub joins_same : {xs xs' : List FromItem} {from to to' : List Tok} → ManyOf JoinE xs from to → ManyOf JoinE xs' from to' → Stops level.SOURCES to → Stops level.SOURCES to' → Same xs xs' to to'
joins_same = many_same FromItem JoinE (Stops level.ITEM) (Stops level.SOURCES) join_same (λ ts s. omega arith) join_begins join_not_stop

pub from_same : {xs xs' : List FromItem} {from to to' : List Tok} → FromE xs from to → FromE xs' from to' → Stops level.SOURCES to → Stops level.SOURCES to' → Same xs xs' to to'
from_same (items d ds) (items d' ds') s s' =
    let p = item_same d d' (joins_stop ds s) (joins_stop ds' s') in
    let q = joins_same ds (begin (ManyOf JoinE) p.1 ds') s s' in
    let i = p.0 refl in
    (cc, q.1)

-- SELECT, WHERE, GROUP BY

pub sels_no_star : {xs : List Sel} {from to : List Tok} → SomeOf SelE xs (star ∷ from) to → ⊥
sels_no_star (some_of (sel d o) ds) = expr_no_star d

pub shown_same : {x x' : Shown} {from to to' : List Tok} → ShownE x from to → ShownE x' from to' → Same x x' to to'
shown_same shown_star shown_star = (refl, refl)
shown_same shown_star (shown_list d') = absurd (sels_no_star d')
shown_same (shown_list d) shown_star = absurd (sels_no_star d)
shown_same (shown_list d) (shown_list d') = let p = sels_same d d' (omega arith, λ e. cc) (omega arith, λ e. cc) in (cc, cut p.1)

pub where_same : {o o' : Option E} {from to to' : List Tok} → WhereE o from to → WhereE o' from to' → Stops level.FILTERED to → Stops level.FILTERED to' → Same o o' to to'
where_same where_none where_none s s' = (refl, refl)
where_same where_none (where_some d') s s' = absurd (omega arith)
where_same (where_some d) where_none s s' = absurd (omega arith)
where_same (where_some d) (where_some d') s s' = let p = expr_same d d' (omega arith) (omega arith) in (cc, p.1)

pub where_stop : {o : Option E} {from to : List Tok} → WhereE o from to → Stops level.FILTERED to → Stops level.SOURCES from
where_stop where_none s = omega arith
where_stop (where_some d) s = omega arith

-- the end of the paths of GROUP BY
abbrev pub EndsPaths : List Tok → Type 0
EndsPaths ts = Stops level.PATH ts × Not (terminal.Sign sign.Comma) ts

pub path_one : OneTree PathE (Stops level.PATH)
path_one _ _ _ _ _ d d' s s' = path_same d d' s s'

pub paths_same : {xs xs' : List Path} {from to to' : List Tok} → SomeOf PathE xs from to → SomeOf PathE xs' from to' → EndsPaths to → EndsPaths to' → Same xs xs' to to'
paths_same = some_same Path PathE (Stops level.PATH) EndsPaths path_one (λ ts s. s.0) (λ ts. omega arith) (λ a ts mid s d. s.1 refl)

pub ends_paths : (ts : List Tok) → Stops level.PLAIN ts → EndsPaths ts
ends_paths ts s = (omega arith, stops_not level.PLAIN (terminal.Sign sign.Comma) ts (omega arith) s)

pub group_same : {xs xs' : List Path} {from to to' : List Tok} → GroupE xs from to → GroupE xs' from to' → Stops level.PLAIN to → Stops level.PLAIN to' → Same xs xs' to to'
group_same group_none group_none s s' = (refl, refl)
group_same group_none (group_some d') s s' = absurd (omega arith)
group_same (group_some d) group_none s s' = absurd (omega arith)
group_same (group_some d) (group_some d') s s' = paths_same d d' (ends_paths _ s) (ends_paths _ s')

pub group_stop : {xs : List Path} {from to : List Tok} → GroupE xs from to → Stops level.PLAIN to → Stops level.FILTERED from
group_stop group_none s = omega arith
group_stop (group_some d) s = omega arith

pub source_same : OneTree SourceE (Stops level.PLAIN)
source_same _ _ _ _ _ (source f w g) (source f' w' g') s s' =
    let h = group_stop g s in
    let h' = group_stop g' s' in
    let q = from_same f f' (where_stop w h) (where_stop w' h') in
    let r = where_same w (begin WhereE q.1 w') h h' in
    let u = group_same g (begin GroupE r.1 g') s s' in
    (cc, u.1)

pub plain_same : {p p' : Plain} {from to to' : List Tok} → PlainE p from to → PlainE p' from to' → Stops level.PLAIN to → Stops level.PLAIN to' → Same p p' to to'
plain_same (plain d f) (plain d' f') s s' =
    let p = shown_same d d' in
    let q = source_same _ _ _ _ _ f (begin SourceE p.1 f') s s' in
    (cc, q.1)

pub plain_front : {p : Plain} {from to : List Tok} → PlainE p from to → terminal_at from ≡ terminal.Word word.Select
plain_front (plain d f) = refl

-- ORDER BY

pub direction_same : OneTree DirectionE EndsKey
direction_same _ _ _ _ _ direction_none direction_none s s' = (refl, refl)
direction_same _ _ _ _ _ direction_none direction_asc s s' = absurd (s.0 refl)
direction_same _ _ _ _ _ direction_none direction_desc s s' = absurd (s.1 refl)
direction_same _ _ _ _ _ direction_asc direction_none s s' = absurd (s'.0 refl)
direction_same _ _ _ _ _ direction_desc direction_none s s' = absurd (s'.1 refl)
direction_same _ _ _ _ _ direction_asc direction_asc s s' = (refl, refl)
direction_same _ _ _ _ _ direction_desc direction_desc s s' = (refl, refl)

pub key_same : OneTree KeyE EndsKey
key_same _ _ _ _ _ (key d) (key d') s s' = let p = direction_same _ _ _ _ _ d d' s s' in (cc, p.1)

pub keys_same : {xs xs' : List OrderKey} {from to to' : List Tok} → SomeOf KeyE xs from to → SomeOf KeyE xs' from to' → EndsKeys to → EndsKeys to' → Same xs xs' to to'
keys_same = some_same OrderKey KeyE EndsKey EndsKeys key_same (λ ts s. (s.1, s.2)) (λ ts. (λ e. cc, λ e. cc)) (λ a ts mid s d. s.0 refl)

pub order_same : {xs xs' : List OrderKey} {from to to' : List Tok} → OrderE xs from to → OrderE xs' from to' → Not (terminal.Word word.Order) to → Not (terminal.Word word.Order) to' → EndsKeys to → EndsKeys to' → Same xs xs' to to'
order_same order_none order_none s s' t t' = (refl, refl)
order_same order_none (order_some d') s s' t t' = absurd (s refl)
order_same (order_some d) order_none s s' t t' = absurd (s' refl)
order_same (order_some d) (order_some d') s s' t t' = keys_same d d' t t'
