-- Where the pieces of a MODEL clause and of a query read nothing, by their parts, and how they are put together.
use Rattle.std.proofs.Common.{◌≡◌, ℕ, ◌≤◌, Bool, List, ◌∷◌, refl, ap, arith}
use Rattle.std.specs.Prelude.{Option}
use Rattle.mq_ast.specs.declared.parts.Body.{Body}
use Rattle.mq_ast.specs.declared.parts.Front.{Front}
use Rattle.mq_ast.specs.declared.parts.Head.{Head}
use Rattle.mq_ast.specs.declared.queries.ModelTree.{ModelTree}
use Rattle.mq_ast.specs.declared.queries.Opt.{Opt}
use Rattle.mq_ast.specs.declared.queries.OrderKey.{OrderKey}
use Rattle.mq_ast.specs.declared.queries.Plain.{Plain}
use Rattle.mq_ast.specs.declared.queries.Sel.{Sel}
use Rattle.mq_ast.specs.declared.clauses.TheConstants as clause
use Rattle.mq_ast.specs.declared.levels.TheConstants as level
use Rattle.mq_lexer.specs.declared.terminals.Terminal.TheVariants as terminal
use Rattle.mq_lexer.specs.declared.keywords.Keyword.TheVariants as word
use Rattle.mq_ast.specs.Prelude.{AxesE, BodyE, EndE, EndsOrder, FrontE, HeadE, MainE, ManyOf, ModelE, Not, Opens, OptE, OrderE, PartsE}
use Rattle.mq_ast.specs.Prelude.{Past, PlainE, QueryE, RefE, ReturnE, RuleList, Stops, TailE, Tok, Word, body, ending, front}
use Rattle.mq_ast.specs.Prelude.{loose, model, model_none, model_some, query, tail, terminal_at}
use Rattle.mq_ast.specs.Laws.{axes_past, begin, end_stop, ends_keys, head_past, head_same, main_same, model_body_past, model_body_same}
use Rattle.mq_ast.specs.Laws.{model_front_same, model_same, no_order, opts_same, order_no_model, order_same, parts_past, parts_same}
use Rattle.mq_ast.specs.Laws.{plain_same, refs_past, return_past, return_same, rules_open}
use Rattle.mq_parse_query.specs.Pieces.{Modelling}
use Rattle.mq_parse_words.specs.Reading.{No, Anywhere}

-- {opt} [RETURN ..] {ref}
pub front_no_opts : {ts : List Tok} → No (ManyOf OptE) (Past clause.OPTION) ts → No FrontE (Past clause.REFERENCE) ts
front_no_opts h a to (front o b f) s = h _ _ o (return_past b (refs_past f s))

pub front_no_return : {os : List Opt} {ts mid : List Tok} → ManyOf OptE os ts mid → Past clause.OPTION mid → No ReturnE (Past clause.RETURN) mid → No FrontE (Past clause.REFERENCE) ts
front_no_return e r h a to (front o b f) s =
    let k = refs_past f s in
    let p = opts_same e o r (return_past b k) in
    h _ _ (begin ReturnE p.1 b) k

pub front_no_refs : {os : List Opt} {x : Bool} {ts mid next : List Tok} → ManyOf OptE os ts mid → Past clause.OPTION mid → ReturnE x mid next → Past clause.RETURN next → No (ManyOf RefE) (Past clause.REFERENCE) next → No FrontE (Past clause.REFERENCE) ts
front_no_refs e r g r' h a to (front o b f) s =
    let k = refs_past f s in
    let p = opts_same e o r (return_past b k) in
    let q = return_same g (begin ReturnE p.1 b) r' k in
    h _ _ (begin (ManyOf RefE) q.1 f) s

-- [MAIN name] [PARTITION BY cols] DIMENSION BY cols MEASURES cols
pub body_no_main : {ts : List Tok} → No MainE (Past clause.MAIN) ts → No BodyE Anywhere ts
body_no_main h a to (body m p x) s = h _ _ m (parts_past p (axes_past x))

pub body_no_parts : {o : Option (List ℕ)} {ts mid : List Tok} → MainE o ts mid → Past clause.MAIN mid → No PartsE (Past clause.PARTITION) mid → No BodyE Anywhere ts
body_no_parts e r h a to (body m p x) s =
    let k = axes_past x in
    let q = main_same e m r (parts_past p k) in
    h _ _ (begin PartsE q.1 p) k

pub body_no_axes : {o : Option (List ℕ)} {ps : List Sel} {ts mid next : List Tok} → MainE o ts mid → Past clause.MAIN mid → PartsE ps mid next → Past clause.PARTITION next → No AxesE Anywhere next → No BodyE Anywhere ts
body_no_axes e r f r' h a to (body m p x) s =
    let k = axes_past x in
    let q = main_same e m r (parts_past p k) in
    let u = parts_same f (begin PartsE q.1 p) r' k in
    h _ _ (begin AxesE u.1 x) tt

-- {opt} rules
pub tail_no_opts : {ts : List Tok} → No (ManyOf OptE) (Past clause.OPTION) ts → No TailE Anywhere ts
tail_no_opts h a to (tail o d l) s = h _ _ o (head_past d (rules_open l))

pub tail_no_head : {os : List Opt} {ts mid : List Tok} → ManyOf OptE os ts mid → Past clause.OPTION mid → No HeadE Opens mid → No TailE Anywhere ts
tail_no_head e r h a to (tail o d l) s =
    let p = opts_same e o r (head_past d (rules_open l)) in
    h _ _ (begin HeadE p.1 d) (rules_open l)

pub tail_no_rules : {os : List Opt} {x : Head} {ts mid next : List Tok} → ManyOf OptE os ts mid → Past clause.OPTION mid → HeadE x mid next → Opens next → No RuleList Anywhere next → No TailE Anywhere ts
tail_no_rules e r f r' h a to (tail o d l) s =
    let p = opts_same e o r (head_past d (rules_open l)) in
    let q = head_same _ _ _ _ _ f (begin HeadE p.1 d) r' (rules_open l) in
    h _ _ (begin RuleList q.1 l) tt

-- MODEL
pub model_no_front : {ts : List Tok} → No FrontE (Past clause.REFERENCE) ts → No Modelling Anywhere ts
model_no_front h a to (model f b e) s = h _ _ f (model_body_past b)

pub model_no_body : {x : Front} {ts mid : List Tok} → FrontE x ts mid → Past clause.REFERENCE mid → No BodyE Anywhere mid → No Modelling Anywhere ts
model_no_body g r h a to (model f b e) s =
    let q = model_front_same _ _ _ _ _ g f r (model_body_past b) in
    h _ _ (begin BodyE q.1 b) tt

pub model_no_tail : {x : Front} {y : Body} {ts mid next : List Tok} → FrontE x ts mid → Past clause.REFERENCE mid → BodyE y mid next → No TailE Anywhere next → No Modelling Anywhere ts
model_no_tail g r v h a to (model f b e) s =
    let q = model_front_same _ _ _ _ _ g f r (model_body_past b) in
    let u = model_body_same v (begin BodyE q.1 b) in
    h _ _ (begin TailE u.1 e) tt

model_front : {x : ModelTree} {ts to : List Tok} → ModelE x ts to → terminal_at ts ≡ terminal.Word word.Model
model_front (model f b e) = refl

pub model_no_word : {ts : List Tok} → Not (terminal.Word word.Model) ts → No ModelE Anywhere ts
model_no_word n a to d s = n (model_front d)

-- [model] [ORDER BY key {',' key}]
ends_order : (ts : List Tok) → Stops level.QUERY ts → EndsOrder ts
ends_order ts s = (no_order ts s, ends_keys ts s)

pub last_no_order : {ts : List Tok} → No OrderE EndsOrder ts → No OrderE (Stops level.QUERY) ts
last_no_order h a to d s = h _ _ d (ends_order to s)

pub last_no_end : {ks : List OrderKey} {ts : List Tok} (mid : List Tok) → OrderE ks ts mid → EndsOrder mid → loose (terminal_at mid) ≤ level.QUERY → No OrderE (Stops level.QUERY) ts
last_no_end mid e r l a to d s =
    let p = order_same e d r.0 (no_order to s) r.1 (ends_keys to s) in
    let k = ap (λ x. loose (terminal_at x)) p.1 in absurd (omega arith)

pub end_no_model : {ts us : List Tok} → ts ≡ Word word.Model ∷ us → No ModelE Anywhere ts → No EndE (Stops level.QUERY) ts
end_no_model e h a to (ending model_none o) s = order_no_model o s (ap terminal_at e)
end_no_model e h a to (ending (model_some d) o) s = h _ _ d tt

pub end_no_last : {x : ModelTree} {ts us mid : List Tok} → ts ≡ Word word.Model ∷ us → ModelE x ts mid → No OrderE (Stops level.QUERY) mid → No EndE (Stops level.QUERY) ts
end_no_last e f h a to (ending model_none o) s = order_no_model o s (ap terminal_at e)
end_no_last e f h a to (ending (model_some d) o) s = let p = model_same f d in h _ _ (begin OrderE p.1 o) s

pub end_no_order : {ts : List Tok} → Not (terminal.Word word.Model) ts → No OrderE (Stops level.QUERY) ts → No EndE (Stops level.QUERY) ts
end_no_order n h a to (ending model_none o) s = h _ _ o s
end_no_order n h a to (ending (model_some d) o) s = n (model_front d)

-- queries
pub query_no_plain : {ts : List Tok} → No PlainE (Stops level.PLAIN) ts → No QueryE (Stops level.QUERY) ts
query_no_plain h a to (query d x) s = h _ _ d (end_stop x s)

pub query_no_end : {x : Plain} {ts mid : List Tok} → PlainE x ts mid → Stops level.PLAIN mid → No EndE (Stops level.QUERY) mid → No QueryE (Stops level.QUERY) ts
query_no_end e r h a to (query d x) s = h _ _ (begin EndE (plain_same e d r (end_stop x s)).1 x) s
