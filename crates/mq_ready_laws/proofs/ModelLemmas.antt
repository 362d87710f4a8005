-- A model that is bound is ready.
use Rattle.std.proofs.Common.{◌≡◌, ℕ, ◌+◌, List, ◌++◌, length, false, Option, Ok, sym, ap, ◌∙◌, subst}
use Rattle.std.specs.Prelude.{is_some}
use Rattle.std.specs.List.{All}
use Rattle.std.specs.Option.{unwrap_or}
use Rattle.std.proofs.lemmas.List.{length-append, length-map}
use Rattle.mq_values.specs.declared.operators.Mode.TheVariants as mode
use Rattle.mq_ast.specs.declared.queries.ModelTree.{ModelTree}
use Rattle.mq_ir.specs.declared.catalog.Catalog.{Catalog}
use Rattle.mq_ir.specs.declared.expression.Expr.{Expr}
use Rattle.mq_ir.specs.declared.query.ColRef.{ColRef}
use Rattle.mq_ir.specs.declared.query.ModelPart.{ModelPart}
use Rattle.mq_ir.specs.declared.query.PlainPart.{PlainPart}
use Rattle.mq_ir.specs.declared.query.Rule.{Rule}
use Rattle.mq_ir.specs.Results.{◌>>=◌}
use Rattle.mq_bind_scopes.specs.declared.misuse_numbers.TheConstants.{MISUSE_OF_OPTIONS}
use Rattle.mq_bind_scopes.specs.declared.scopes.Part.TheVariants as part
use Rattle.mq_bind_scopes.specs.declared.scopes.Scope.{Scope}
use Rattle.mq_bind_expr.specs.ExpressionWalk.{bound_filter}
use Rattle.mq_bind_scopes.specs.Heads.{head_bound}
use Rattle.mq_bind_scopes.specs.Options.{ignores_nav, options_clash}
use Rattle.mq_bind_scopes.specs.Positions.{standing}
use Rattle.mq_bind_scopes.specs.Refusals.{misuse}
use Rattle.mq_binder.specs.declared.found.ListItem.{ListItem}
use Rattle.mq_binder.specs.declared.found.Lists.{Lists}
use Rattle.mq_binder.specs.declared.found.ModelFound.{ModelFound}
use Rattle.mq_binder.specs.declared.found.ReferenceFound.{ReferenceFound}
use Rattle.mq_binder.specs.ListWalk.{list_columns, list_exprs, list_kinds}
use Rattle.mq_binder.specs.ModelWalk.{all_items, iterate_of, lists_and_rules, lists_bound, model_over, model_part, rule_scope, rules_over}
use Rattle.mq_binder.specs.ReferenceWalk.{references_bound}
use Rattle.mq_binder.specs.RuleWalk.{rules_bound}
use Rattle.mq_ir.specs.Ready.{LeftHasPlaces, ModelIsReady}
use Rattle.mq_ready_laws.proofs.RuleLemmas.{rules_have_places}
use Rattle.mq_ready_laws.proofs.StepLemmas.{ok_is, passed, went}

-- ---- the lengths of the lists
exprs_long : (items : List ListItem) → length (list_exprs items) ≡ length items
exprs_long items = length-map items (λ (i : ListItem). i.e)

columns_kinds : (items : List ListItem) → length (list_columns items) ≡ length (list_kinds items)
columns_kinds items = length-map items (λ (i : ListItem). i.column) ∙ sym (length-map items (λ (i : ListItem). i.kind))

kinds_long : (items : List ListItem) → length (list_kinds items) ≡ length items
kinds_long items = length-map items (λ (i : ListItem). i.kind)

counted : (lists : Lists) → length (list_exprs (all_items lists)) ≡ length lists.parts + length (list_kinds lists.dims) + length (list_kinds lists.measures)
counted lists =
    exprs_long (all_items lists) ∙ length-append (lists.parts ++ lists.dims) lists.measures ∙ ap (λ n. n + length lists.measures) (length-append lists.parts lists.dims)
    ∙ (λ i. length lists.parts + sym (kinds_long lists.dims) i + sym (kinds_long lists.measures) i)

-- ---- the rules
abbrev IsReadyOver : Lists → ModelPart → Type 0
IsReadyOver lists x = ModelIsReady (length (list_exprs (all_items lists))) x

rules_ready : (catalog : Catalog) (m : ModelTree) (refs : List ReferenceFound) (lists : Lists) (turns : Option ℕ) (x : ModelPart)
    → rules_over catalog m refs lists turns (rule_scope refs lists (is_some turns)) ≡ Ok x → IsReadyOver lists x
rules_ready catalog m refs lists turns x h =
    let scope = rule_scope refs lists (is_some turns) in
    let made : List Rule × List PlainPart → Option Expr → ModelPart = λ found until. model_part m refs lists (iterate_of turns until) found in
    let w = went (rules_bound catalog scope (unwrap_or m.mode mode.Upsert) m.auto m.rules)
    (λ found. bound_filter scope (standing part.Until) m.until >>= (λ until. Ok (made found until))) x h in
    let v = went (bound_filter scope (standing part.Until) m.until) (λ until. Ok (made w.value until)) x w.after in
    let places = rules_have_places catalog scope (unwrap_or m.mode mode.Upsert) m.auto m.rules w.value w.first in
    subst (IsReadyOver lists) (ok_is (made w.value v.value) x v.after) (record {
      lefts = subst (λ n. All (λ (rule : Rule). LeftHasPlaces n rule.left) w.value.0) (columns_kinds lists.dims) places;
      wide = counted lists;
    })

-- ---- the model
abbrev FoundIsReady : ModelFound → Type 0
FoundIsReady found = ModelIsReady (length found.items) found.part

lists_ready : (catalog : Catalog) (group : Option (List ColRef)) (scope : Scope) (m : ModelTree) (refs : List ReferenceFound) (found : ModelFound)
    → lists_and_rules catalog group scope m refs ≡ Ok found → FoundIsReady found
lists_ready catalog group scope m refs found h =
    let made : Lists → ModelPart → ModelFound = λ lists x. record { part = x; items = list_exprs (all_items lists); columns = list_columns (all_items lists); group = group } in
    let w = went (lists_bound scope m)
    (λ lists. head_bound m >>= (λ turns. rules_over catalog m refs lists turns (rule_scope refs lists (is_some turns)) >>= (λ x. Ok (made lists x)))) found h in
    let v = went (head_bound m) (λ turns. rules_over catalog m refs w.value turns (rule_scope refs w.value (is_some turns)) >>= (λ x. Ok (made w.value x))) found w.after in
    let u = went (rules_over catalog m refs w.value v.value (rule_scope refs w.value (is_some v.value))) (λ x. Ok (made w.value x)) found v.after in
    subst FoundIsReady {x = made w.value u.value} (ok_is (made w.value u.value) found u.after) (rules_ready catalog m refs w.value v.value u.value u.first)

pub model_ready : (catalog : Catalog) (scope : Scope) (m : ModelTree) (found : ModelFound) → model_over catalog scope m ≡ Ok found
    → ModelIsReady (length found.items) found.part
model_ready catalog scope m found h =
    let rest = references_bound catalog (ignores_nav m.opts false) m.refs >>= (λ refs. lists_and_rules catalog scope.group scope m refs) in
    let p = passed (options_clash m.opts) (misuse MISUSE_OF_OPTIONS) rest found h in
    let w = went (references_bound catalog (ignores_nav m.opts false) m.refs) (λ refs. lists_and_rules catalog scope.group scope m refs) found p.after in
    lists_ready catalog scope.group scope m w.value found w.after
