-- The model of a query that is bound has a name for each measure.
use Rattle.std.proofs.Common.{◌≡◌, ℕ, length, Bool, true, false, ◌==◌, Option, Some, None, List, Result, Ok, refl, sym, ◌∙◌, subst, arith}
use Rattle.std.specs.Prelude.{is_some}
use Rattle.std.specs.List.{range_with_len}
use Rattle.std.specs.Option.{option_map_or, unwrap_or}
use Rattle.std.proofs.lemmas.Bool.Decides.{nat_tests}
use Rattle.mq_values.specs.declared.faults.Refused.{Refused}
use Rattle.mq_values.specs.declared.operators.Mode.TheVariants as mode
use Rattle.mq_ast.specs.declared.queries.ModelTree.{ModelTree}
use Rattle.mq_ast.specs.declared.queries.Query.{Query}
use Rattle.mq_ir.specs.declared.catalog.Catalog.{Catalog}
use Rattle.mq_ir.specs.declared.expression.Expr.{Expr}
use Rattle.mq_ir.specs.declared.query.BoundQuery.{BoundQuery}
use Rattle.mq_ir.specs.declared.query.FromPart.{FromPart}
use Rattle.mq_ir.specs.declared.query.Iterate.{Iterate}
use Rattle.mq_ir.specs.declared.query.ModelPart.{ModelPart}
use Rattle.mq_ir.specs.declared.query.PlainPart.{PlainPart}
use Rattle.mq_ir.specs.declared.query.Rule.{Rule}
use Rattle.mq_ir.specs.Results.{◌>>=◌, each}
use Rattle.mq_bind_scopes.specs.declared.misuse_numbers.TheConstants.{MISUSE_OF_OPTIONS}
use Rattle.mq_bind_scopes.specs.declared.scopes.Part.TheVariants as part
use Rattle.mq_bind_scopes.specs.declared.scopes.Scope.{Scope}
use Rattle.mq_bind_scopes.specs.Heads.{head_bound}
use Rattle.mq_bind_scopes.specs.Options.{ignores_nav, options_clash}
use Rattle.mq_bind_scopes.specs.Positions.{standing}
use Rattle.mq_bind_scopes.specs.Refusals.{misuse}
use Rattle.mq_bind_expr.specs.ExpressionWalk.{bound_filter}
use Rattle.mq_binder.specs.declared.found.Lists.{Lists}
use Rattle.mq_binder.specs.declared.found.ModelFound.{ModelFound}
use Rattle.mq_binder.specs.declared.found.PlainFound.{PlainFound}
use Rattle.mq_binder.specs.declared.found.ReferenceFound.{ReferenceFound}
use Rattle.mq_binder.specs.FromWalk.{base_of, grouped_by}
use Rattle.mq_binder.specs.ListWalk.{list_columns, list_exprs, list_kinds, list_names}
use Rattle.mq_binder.specs.ModelWalk.{all_items, iterate_of, lists_and_rules, lists_bound, model_group, model_over, model_part, rule_scope, rules_over}
use Rattle.mq_binder.specs.PlainWalk.{plain_bound}
use Rattle.mq_binder.specs.QueryWalk.{few_shown, model_key, model_query, model_rows, plain_query, printed_key, query_bound, query_with, shown_scope}
use Rattle.mq_binder.specs.ReferenceWalk.{references_bound}
use Rattle.mq_binder.specs.RuleWalk.{rules_bound}
use Rattle.mq_binder.specs.WithinLimits.{names_measures}
use Rattle.mq_binder.proofs.ReferenceLemmas.{kinds_long, names_long}
use Rattle.mq_binder.proofs.FitStepLemmas.{ok_is, passed, went}

eq_of : (n m : ℕ) → n ≡ m → (n == m) ≡ true
eq_of n m h = grind (arith, nat_tests)

part_names : (m : ModelTree) (refs : List ReferenceFound) (lists : Lists) (iterate : Option Iterate) (found : List Rule × List PlainPart) → names_measures (model_part m refs lists iterate found) ≡ true
part_names m refs lists iterate found = eq_of (length (list_names lists.measures)) (length (list_kinds lists.measures)) (names_long lists.measures ∙ sym (kinds_long lists.measures))

rules_name : (catalog : Catalog) (m : ModelTree) (refs : List ReferenceFound) (lists : Lists) (turns : Option ℕ) (scope : Scope) (x : ModelPart) → rules_over catalog m refs lists turns scope ≡ Ok x → names_measures x ≡ true
rules_name catalog m refs lists turns scope x h =
    let made : List Rule × List PlainPart → Option Expr → ModelPart = λ found until. model_part m refs lists (iterate_of turns until) found in
    let w = went (rules_bound catalog scope (unwrap_or m.mode mode.Upsert) m.auto m.rules) (λ found. bound_filter scope (standing part.Until) m.until >>= (λ until. Ok (made found until))) x h in
    let v = went (bound_filter scope (standing part.Until) m.until) (λ until. Ok (made w.value until)) x w.after in
    subst (λ (x : ModelPart). names_measures x ≡ true) (ok_is (made w.value v.value) x v.after) (part_names m refs lists (iterate_of turns v.value) w.value)

model_names : (catalog : Catalog) (scope : Scope) (m : ModelTree) (found : ModelFound) → model_over catalog scope m ≡ Ok found → names_measures found.part ≡ true
model_names catalog scope m found h =
    let around = ignores_nav m.opts false in
    let next : List ReferenceFound → Result ModelFound Refused = λ refs. lists_and_rules catalog scope.group scope m refs in
    let made : Lists → ModelPart → ModelFound = λ lists x. record { part = x; items = list_exprs (all_items lists); columns = list_columns (all_items lists); group = scope.group } in
    let p = passed (options_clash m.opts) (misuse MISUSE_OF_OPTIONS) (references_bound catalog around m.refs >>= next) found h in
    let w = went (references_bound catalog around m.refs) next found p.after in
    let rest : Lists → Option ℕ → Result ModelFound Refused = λ lists turns. rules_over catalog m w.value lists turns (rule_scope w.value lists (is_some turns)) >>= (λ x. Ok (made lists x)) in
    let a = went (lists_bound scope m) (λ lists. head_bound m >>= rest lists) found w.after in
    let b = went (head_bound m) (rest a.value) found a.after in
    let c = went (rules_over catalog m w.value a.value b.value (rule_scope w.value a.value (is_some b.value))) (λ x. Ok (made a.value x)) found b.after in
    subst (λ (f : ModelFound). names_measures f.part ≡ true) (ok_is (made a.value c.value) found c.after) (rules_name catalog m w.value a.value b.value (rule_scope w.value a.value (is_some b.value)) c.value c.first)

abbrev Names : BoundQuery → Type 0
Names b = option_map_or names_measures b.model true ≡ true

plain_names : (q : Query) (found : PlainFound) (b : BoundQuery) → plain_query q found ≡ Ok b → Names b
plain_names q found b h =
    let made : List (ℕ × Bool) → BoundQuery = λ order. record { from = found.part.from; items = found.part.items; model = None; print = range_with_len 0 (length found.printed); order = order } in
    let w = went (each (printed_key found.printed) q.order) (λ order. Ok (made order)) b h in
    subst Names (ok_is (made w.value) b w.after) refl

with_names : (q : Query) (from : FromPart) (scope : Scope) (found : ModelFound) → names_measures found.part ≡ true → (b : BoundQuery) → model_query q from scope found ≡ Ok b → Names b
with_names q from scope found named b h =
    let shown = shown_scope scope found in
    let made : List ℕ → List (ℕ × Bool) → BoundQuery = λ print order. record { from = from; items = record { group = found.group; items = found.items }; model = Some found.part; print = print; order = order } in
    let w = went (few_shown q shown) (λ print. each (model_key found.columns) q.order >>= (λ order. Ok (made print order))) b h in
    let v = went (each (model_key found.columns) q.order) (λ order. Ok (made w.value order)) b w.after in
    subst Names (ok_is (made w.value v.value) b v.after) named

by_model : (catalog : Catalog) (q : Query) (model : Option ModelTree) (b : BoundQuery) → query_with catalog q model ≡ Ok b → Names b
by_model catalog q None b h =
    let w = went (plain_bound catalog q.plain) (plain_query q) b h in
    plain_names q w.value b w.after
by_model catalog q (Some m) b h =
    let w = went (base_of catalog q.plain) (λ base. model_rows catalog q m base.from (grouped_by (model_group m base) base.scope)) b h in
    let scope = grouped_by (model_group m w.value) w.value.scope in
    let v = went (model_over catalog scope m) (model_query q w.value.from scope) b w.after in
    with_names q w.value.from scope v.value (model_names catalog scope m v.value v.first) b v.after

pub query_names : (catalog : Catalog) (q : Query) (b : BoundQuery) → query_bound catalog q ≡ Ok b → option_map_or names_measures b.model true ≡ true
query_names catalog q b h = by_model catalog q q.model b h
