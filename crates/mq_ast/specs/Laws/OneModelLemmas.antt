-- Two MODEL clauses, and two queries, that read the same tokens are equal.
use Rattle.std.proofs.Common.{ℕ, ◌<◌, List, refl, sym, subst, arith}
use Rattle.std.specs.Prelude.{Option, Bool}
use Rattle.mq_values.specs.Number.{Number}
use Rattle.mq_ast.specs.declared.expressions.E.{E}
use Rattle.mq_ast.specs.declared.queries.Sel.{Sel}
use Rattle.mq_ast.specs.declared.queries.OrderKey.{OrderKey}
use Rattle.mq_ast.specs.declared.queries.Opt.{Opt}
use Rattle.mq_ast.specs.declared.queries.RefTree.{RefTree}
use Rattle.mq_ast.specs.declared.queries.RuleTree.{RuleTree}
use Rattle.mq_ast.specs.declared.queries.ModelTree.{ModelTree}
use Rattle.mq_ast.specs.declared.queries.Query.{Query}
use Rattle.mq_ast.specs.declared.queries.Plain.{Plain}
use Rattle.mq_ast.specs.declared.parts.Head.{Head}
use Rattle.mq_ast.specs.declared.parts.Body.{Body}
use Rattle.mq_ast.specs.declared.parts.Tail.{Tail}
use Rattle.mq_lexer.specs.declared.keywords.Keyword.TheVariants as word
use Rattle.mq_lexer.specs.declared.terminals.Symbol.TheVariants as sign
use Rattle.mq_lexer.specs.declared.terminals.Terminal.{Terminal}
use Rattle.mq_lexer.specs.declared.terminals.Terminal.TheVariants as terminal
use Rattle.mq_ast.specs.Tokens.{Tok}
use Rattle.mq_ast.specs.declared.levels.TheConstants as level
use Rattle.mq_ast.specs.declared.clauses.TheConstants as clause
use Rattle.mq_ast.specs.Continuing.{part, Stops, Not, EndsKeys, Opens, Past}
use Rattle.mq_ast.specs.OneTree.{OneTree}
use Rattle.mq_ast.specs.GrammarLists.{ManyOf, many_end, many_more}
use Rattle.mq_ast.specs.GrammarQuery.{Cols, OrderE, order_none, order_some}
use Rattle.mq_ast.specs.GrammarRule.{RuleList, rules_none, rules_some}
use Rattle.mq_ast.specs.GrammarHead.{AutoE, auto_none, auto_yes, auto_no, UntilE, until_none, until_some, RoundInt, round_int, IterateE, iterate_none, iterate_some, HeadE, head_none, head_some}
use Rattle.mq_ast.specs.GrammarModel.{OptE, opt_ignore, opt_keep, opt_unique, WhichE, which_all, which_updated, ReturnE, return_none, return_rows, RefSourceE, ref_source, DimsE, dims, AxesE, axes, RefE, reference}
use Rattle.mq_ast.specs.GrammarModel.{FrontE, front, MainE, main_none, main_some, PartsE, parts_none, parts_some, BodyE, body, TailE, tail, ModelE, model, MaybeModel, model_none, model_some, EndE, ending, QueryE, query}
use Rattle.mq_ast.specs.Laws.CommonLemmas.{Same, begin, cut}
use Rattle.mq_ast.specs.Laws.OneExpressionLemmas.{expr_same}
use Rattle.mq_ast.specs.Laws.OneListLemmas.{many_same, stops_not, Whatever}
use Rattle.mq_ast.specs.Laws.OneQueryLemmas.{plain_same, cols_same, order_same}
use Rattle.mq_ast.specs.Laws.OneRuleLemmas.{maybe_mode_same, rule_list_same}

-- options

pub opt_same : OneTree OptE Whatever
opt_same _ _ _ _ _ opt_ignore opt_ignore s s' = (refl, refl)
opt_same _ _ _ _ _ opt_keep opt_keep s s' = (refl, refl)
opt_same _ _ _ _ _ opt_unique opt_unique s s' = (refl, refl)

pub opt_not_past : (o : Opt) (from to : List Tok) → Past clause.OPTION from → OptE o from to → ⊥
opt_not_past _ _ _ s opt_ignore = absurd (omega arith)
opt_not_past _ _ _ s opt_keep = absurd (omega arith)
opt_not_past _ _ _ s opt_unique = absurd (omega arith)

pub opts_same : {os os' : List Opt} {from to to' : List Tok} → ManyOf OptE os from to → ManyOf OptE os' from to' → Past clause.OPTION to → Past clause.OPTION to' → Same os os' to to'
opts_same = many_same Opt OptE Whatever (Past clause.OPTION) opt_same (λ ts s. tt) (λ a ts mid d. tt) opt_not_past

-- RETURN and REFERENCE

pub which_same : {b b' : Bool} {from to to' : List Tok} → WhichE b from to → WhichE b' from to' → Same b b' to to'
which_same which_all which_all = (refl, refl)
which_same which_updated which_updated = (refl, refl)

pub return_same : {b b' : Bool} {from to to' : List Tok} → ReturnE b from to → ReturnE b' from to' → Past clause.RETURN to → Past clause.RETURN to' → Same b b' to to'
return_same return_none return_none s s' = (refl, refl)
return_same return_none (return_rows d') s s' = absurd (omega arith)
return_same (return_rows d) return_none s s' = absurd (omega arith)
return_same (return_rows d) (return_rows d') s s' = let p = which_same d d' in (p.0, cut p.1)

pub return_past : {b : Bool} {from to : List Tok} → ReturnE b from to → Past clause.RETURN to → Past clause.OPTION from
return_past return_none s = omega arith
return_past (return_rows d) s = omega arith

pub ref_source_same : {a a' : List ℕ × Plain} {from to to' : List Tok} → RefSourceE a from to → RefSourceE a' from to' → Same a a' to to'
ref_source_same (ref_source d) (ref_source d') = let p = plain_same d d' (omega arith) (omega arith) in (cc, cut p.1)

pub dims_same : {xs xs' : List Sel} {from to to' : List Tok} → DimsE xs from to → DimsE xs' from to' → Same xs xs' to to'
dims_same (dims d) (dims d') = let p = cols_same d d' in (p.0, cut p.1)

pub axes_same : {a a' : List Sel × List Sel} {from to to' : List Tok} → AxesE a from to → AxesE a' from to' → Same a a' to to'
axes_same (axes d m) (axes d' m') =
    let p = dims_same d d' in
    let q = cols_same m (begin Cols p.1 m') in
    (cc, q.1)

pub axes_past : {a : List Sel × List Sel} {from to : List Tok} → AxesE a from to → Past clause.PARTITION from
axes_past (axes (dims d) m) = omega arith

pub ref_same : OneTree RefE (Past clause.OPTION)
ref_same _ _ _ _ _ (reference d x o) (reference d' x' o') s s' =
    let p = ref_source_same d d' in
    let q = axes_same x (begin AxesE p.1 x') in
    let u = opts_same o (begin (ManyOf OptE) q.1 o') s s' in
    (cc, u.1)

pub ref_past : (r : RefTree) (from to : List Tok) → RefE r from to → Past clause.OPTION from
ref_past _ _ _ (reference d x o) = omega arith

pub ref_not_past : (r : RefTree) (from to : List Tok) → Past clause.REFERENCE from → RefE r from to → ⊥
ref_not_past _ _ _ s (reference d x o) = absurd (omega arith)

pub refs_same : {rs rs' : List RefTree} {from to to' : List Tok} → ManyOf RefE rs from to → ManyOf RefE rs' from to' → Past clause.REFERENCE to → Past clause.REFERENCE to' → Same rs rs' to to'
refs_same = many_same RefTree RefE (Past clause.OPTION) (Past clause.REFERENCE) ref_same (λ ts s. omega arith) ref_past ref_not_past

pub refs_past : {rs : List RefTree} {from to : List Tok} → ManyOf RefE rs from to → Past clause.REFERENCE to → Past clause.RETURN from
refs_past many_end s = omega arith
refs_past (many_more (reference d x o) ds) s = omega arith

pub model_front_same : OneTree FrontE (Past clause.REFERENCE)
model_front_same _ _ _ _ _ (front o b f) (front o' b' f') s s' =
    let k = refs_past f s in
    let k' = refs_past f' s' in
    let p = opts_same o o' (return_past b k) (return_past b' k') in
    let q = return_same b (begin ReturnE p.1 b') k k' in
    let r = refs_same f (begin (ManyOf RefE) q.1 f') s s' in
    (cc, r.1)

-- MAIN and PARTITION BY

pub main_same : {o o' : Option (List ℕ)} {from to to' : List Tok} → MainE o from to → MainE o' from to' → Past clause.MAIN to → Past clause.MAIN to' → Same o o' to to'
main_same main_none main_none s s' = (refl, refl)
main_same main_none main_some s s' = absurd (omega arith)
main_same main_some main_none s s' = absurd (omega arith)
main_same main_some main_some s s' = (refl, refl)

pub main_past : {o : Option (List ℕ)} {from to : List Tok} → MainE o from to → Past clause.MAIN to → Past clause.REFERENCE from
main_past main_none s = omega arith
main_past main_some s = omega arith

pub parts_same : {ps ps' : List Sel} {from to to' : List Tok} → PartsE ps from to → PartsE ps' from to' → Past clause.PARTITION to → Past clause.PARTITION to' → Same ps ps' to to'
parts_same parts_none parts_none s s' = (refl, refl)
parts_same parts_none (parts_some d') s s' = absurd (omega arith)
parts_same (parts_some d) parts_none s s' = absurd (omega arith)
parts_same (parts_some d) (parts_some d') s s' = cols_same d d'

pub parts_past : {ps : List Sel} {from to : List Tok} → PartsE ps from to → Past clause.PARTITION to → Past clause.MAIN from
parts_past parts_none s = omega arith
parts_past (parts_some d) s = omega arith

pub model_body_same : {x x' : Body} {from to to' : List Tok} → BodyE x from to → BodyE x' from to' → Same x x' to to'
model_body_same (body m p x) (body m' p' x') =
    let k = axes_past x in
    let k' = axes_past x' in
    let q = main_same m m' (parts_past p k) (parts_past p' k') in
    let u = parts_same p (begin PartsE q.1 p') k k' in
    let v = axes_same x (begin AxesE u.1 x') in
    (cc, v.1)

pub model_body_past : {x : Body} {from to : List Tok} → BodyE x from to → Past clause.REFERENCE from
model_body_past (body m p x) = main_past m (parts_past p (axes_past x))

-- RULES

pub auto_same : {b b' : Bool} {from to to' : List Tok} → AutoE b from to → AutoE b' from to' → Past clause.ORDER to → Past clause.ORDER to' → Same b b' to to'
auto_same auto_none auto_none s s' = (refl, refl)
auto_same auto_none auto_yes s s' = absurd (omega arith)
auto_same auto_none auto_no s s' = absurd (omega arith)
auto_same auto_yes auto_none s s' = absurd (omega arith)
auto_same auto_no auto_none s s' = absurd (omega arith)
auto_same auto_yes auto_yes s s' = (refl, refl)
auto_same auto_no auto_no s s' = (refl, refl)

pub auto_past : {b : Bool} {from to : List Tok} → AutoE b from to → Past clause.ORDER to → Past clause.MODE from
auto_past auto_none s = omega arith
auto_past auto_yes s = omega arith
auto_past auto_no s = omega arith

pub until_same : {u u' : Option E} {from to to' : List Tok} → UntilE u from to → UntilE u' from to' → Past clause.UNTIL to → Past clause.UNTIL to' → Same u u' to to'
until_same until_none until_none s s' = (refl, refl)
until_same until_none (until_some d') s s' = absurd (omega arith)
until_same (until_some d) until_none s s' = absurd (omega arith)
until_same (until_some d) (until_some d') s s' = let p = expr_same d d' (omega arith) (omega arith) in (cc, cut p.1)

pub int_same : {n n' : Number} {from to to' : List Tok} → RoundInt n from to → RoundInt n' from to' → Same n n' to to'
int_same (round_int i) (round_int i') = (refl, refl)

pub iterate_same : OneTree IterateE (Past clause.UNTIL)
iterate_same _ _ _ _ _ iterate_none iterate_none s s' = (refl, refl)
iterate_same _ _ _ _ _ iterate_none (iterate_some i' d') s s' = absurd (omega arith)
iterate_same _ _ _ _ _ (iterate_some i d) iterate_none s s' = absurd (omega arith)
iterate_same _ _ _ _ _ (iterate_some i d) (iterate_some i' d') s s' =
    let p = int_same i i' in
    let q = until_same d (begin UntilE p.1 d') s s' in
    (cc, q.1)

pub iterate_past : {p : Option Number × Option E} {from to : List Tok} → IterateE p from to → Past clause.UNTIL to → Past clause.ORDER from
iterate_past iterate_none s = omega arith
iterate_past (iterate_some i d) s = omega arith

pub opens_past : (ts : List Tok) → Opens ts → Past clause.UNTIL ts
opens_past ts e = let P : Terminal → Type 0 = λ t. clause.UNTIL < part t in let h : clause.UNTIL < part (terminal.Sign sign.Open) = omega arith in subst P (sym e) h

pub head_same : OneTree HeadE Opens
head_same _ _ _ _ _ head_none head_none o o' = (refl, refl)
head_same _ _ _ _ _ head_none (head_some m' b' n') o o' = absurd cc
head_same _ _ _ _ _ (head_some m b n) head_none o o' = absurd cc
head_same _ _ _ _ _ (head_some m b n) (head_some m' b' n') o o' =
    let s = opens_past _ o in
    let s' = opens_past _ o' in
    let i = iterate_past n s in
    let i' = iterate_past n' s' in
    let p = maybe_mode_same m m' (auto_past b i) (auto_past b' i') in
    let q = auto_same b (begin AutoE p.1 b') i i' in
    let r = iterate_same _ _ _ _ _ n (begin IterateE q.1 n') s s' in
    (cc, r.1)

pub head_past : {h : Head} {from to : List Tok} → HeadE h from to → Opens to → Past clause.OPTION from
head_past head_none o = let s = opens_past _ o in omega arith
head_past (head_some m b n) o = omega arith

pub rules_open : {rs : List RuleTree} {from to : List Tok} → RuleList rs from to → Opens from
rules_open rules_none = refl
rules_open (rules_some d) = refl

pub model_tail_same : {x x' : Tail} {from to to' : List Tok} → TailE x from to → TailE x' from to' → Same x x' to to'
model_tail_same (tail o h l) (tail o' h' l') =
    let p = opts_same o o' (head_past h (rules_open l)) (head_past h' (rules_open l')) in
    let q = head_same _ _ _ _ _ h (begin HeadE p.1 h') (rules_open l) (rules_open l') in
    let r = rule_list_same l (begin RuleList q.1 l') in
    (cc, r.1)

-- MODEL and queries

pub model_same : {m m' : ModelTree} {from to to' : List Tok} → ModelE m from to → ModelE m' from to' → Same m m' to to'
model_same (model f b e) (model f' b' e') =
    let p = model_front_same _ _ _ _ _ f f' (model_body_past b) (model_body_past b') in
    let q = model_body_same b (begin BodyE p.1 b') in
    let r = model_tail_same e (begin TailE q.1 e') in
    (cc, r.1)

pub maybe_model_same : {m m' : Option ModelTree} {from to to' : List Tok} → MaybeModel m from to → MaybeModel m' from to' → Not (terminal.Word word.Model) to → Not (terminal.Word word.Model) to' → Same m m' to to'
maybe_model_same model_none model_none s s' = (refl, refl)
maybe_model_same model_none (model_some (model f b e)) s s' = absurd (s refl)
maybe_model_same (model_some (model f b e)) model_none s s' = absurd (s' refl)
maybe_model_same (model_some d) (model_some d') s s' = let p = model_same d d' in (cc, p.1)

pub model_stop : {m : Option ModelTree} {from to : List Tok} → MaybeModel m from to → Stops level.PLAIN to → Stops level.PLAIN from
model_stop model_none s = s
model_stop (model_some (model f b e)) s = omega arith

pub order_stop : {ks : List OrderKey} {from to : List Tok} → OrderE ks from to → Stops level.QUERY to → Stops level.PLAIN from
order_stop order_none s = omega arith
order_stop (order_some d) s = omega arith

pub order_no_model : {ks : List OrderKey} {from to : List Tok} → OrderE ks from to → Stops level.QUERY to → Not (terminal.Word word.Model) from
order_no_model order_none s = stops_not level.QUERY (terminal.Word word.Model) _ (omega arith) s
order_no_model (order_some d) s = λ e. cc

pub no_order : (ts : List Tok) → Stops level.QUERY ts → Not (terminal.Word word.Order) ts
no_order ts s = stops_not level.QUERY (terminal.Word word.Order) ts (omega arith) s

pub ends_keys : (ts : List Tok) → Stops level.QUERY ts → EndsKeys ts
ends_keys ts s = (stops_not level.QUERY (terminal.Sign sign.Comma) ts (omega arith) s, stops_not level.QUERY (terminal.Word word.Asc) ts (omega arith) s, stops_not level.QUERY (terminal.Word word.Desc) ts (omega arith) s)

pub end_same : OneTree EndE (Stops level.QUERY)
end_same _ _ _ _ _ (ending m o) (ending m' o') s s' =
    let q = maybe_model_same m m' (order_no_model o s) (order_no_model o' s') in
    let r = order_same o (begin OrderE q.1 o') (no_order _ s) (no_order _ s') (ends_keys _ s) (ends_keys _ s') in
    (cc, r.1)

pub end_stop : {x : Option ModelTree × List OrderKey} {from to : List Tok} → EndE x from to → Stops level.QUERY to → Stops level.PLAIN from
end_stop (ending m o) s = model_stop m (order_stop o s)

pub query_same : {q q' : Query} {from to to' : List Tok} → QueryE q from to → QueryE q' from to' → Stops level.QUERY to → Stops level.QUERY to' → Same q q' to to'
query_same (query d x) (query d' x') s s' =
    let p = plain_same d d' (end_stop x s) (end_stop x' s') in
    let q = end_same _ _ _ _ _ x (begin EndE p.1 x') s s' in
    (cc, q.1)
