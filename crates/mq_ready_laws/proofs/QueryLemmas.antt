-- A query that is bound is ready.
use Rattle.std.proofs.Common.{◌≡◌, ℕ, List, length, Bool, Option, Some, None, Ok, subst}
use Rattle.std.specs.List.{range_with_len}
use Rattle.mq_ast.specs.declared.queries.ModelTree.{ModelTree}
use Rattle.mq_ast.specs.declared.queries.Query.{Query}
use Rattle.mq_ir.specs.declared.catalog.Catalog.{Catalog}
use Rattle.mq_ir.specs.declared.query.BoundQuery.{BoundQuery}
use Rattle.mq_ir.specs.declared.query.FromPart.{FromPart}
use Rattle.mq_ir.specs.Results.{◌>>=◌, each}
use Rattle.mq_bind_scopes.specs.declared.scopes.Scope.{Scope}
use Rattle.mq_binder.specs.declared.found.ModelFound.{ModelFound}
use Rattle.mq_binder.specs.declared.found.PlainFound.{PlainFound}
use Rattle.mq_binder.specs.FromWalk.{base_of, grouped_by}
use Rattle.mq_binder.specs.ModelWalk.{model_group, model_over}
use Rattle.mq_binder.specs.PlainWalk.{plain_bound}
use Rattle.mq_binder.specs.QueryWalk.{few_shown, model_key, model_query, model_rows, plain_query, printed_key, query_bound, query_with, shown_scope}
use Rattle.mq_ir.specs.Ready.{ModelIsReady, QueryIsReady}
use Rattle.mq_ready_laws.proofs.ModelLemmas.{model_ready}
use Rattle.mq_ready_laws.proofs.StepLemmas.{ok_is, went}

-- without MODEL
plain_is_ready : (q : Query) (found : PlainFound) (b : BoundQuery) → plain_query q found ≡ Ok b → QueryIsReady b
plain_is_ready q found b h =
    let made : List (ℕ × Bool) → BoundQuery =
    λ order. record { from = found.part.from; items = found.part.items; model = None; print = range_with_len 0 (length found.printed); order = order } in
    let w = went (each (printed_key found.printed) q.order) (λ order. Ok (made order)) b h in
    subst QueryIsReady (ok_is (made w.value) b w.after) tt

-- with MODEL
model_is_ready : (q : Query) (from : FromPart) (scope : Scope) (found : ModelFound) → ModelIsReady (length found.items) found.part → (b : BoundQuery) → model_query q from scope found ≡ Ok b
    → QueryIsReady b
model_is_ready q from scope found ready b h =
    let shown = shown_scope scope found in
    let made : List ℕ → List (ℕ × Bool) → BoundQuery =
    λ print order. record { from = from; items = record { group = found.group; items = found.items }; model = Some found.part; print = print; order = order } in
    let w = went (few_shown q shown) (λ print. each (model_key found.columns) q.order >>= (λ order. Ok (made print order))) b h in
    let v = went (each (model_key found.columns) q.order) (λ order. Ok (made w.value order)) b w.after in
    subst QueryIsReady {x = made w.value v.value} (ok_is (made w.value v.value) b v.after) ready

by_model : (catalog : Catalog) (q : Query) (model : Option ModelTree) (b : BoundQuery) → query_with catalog q model ≡ Ok b → QueryIsReady b
by_model catalog q None b h =
    let w = went (plain_bound catalog q.plain) (plain_query q) b h in
    plain_is_ready q w.value b w.after
by_model catalog q (Some m) b h =
    let w = went (base_of catalog q.plain) (λ base. model_rows catalog q m base.from (grouped_by (model_group m base) base.scope)) b h in
    let scope = grouped_by (model_group m w.value) w.value.scope in
    let v = went (model_over catalog scope m) (model_query q w.value.from scope) b w.after in
    model_is_ready q w.value.from scope v.value (model_ready catalog scope m v.value v.first) b v.after

pub query_ready : (catalog : Catalog) (q : Query) (b : BoundQuery) → query_bound catalog q ≡ Ok b → QueryIsReady b
query_ready catalog q = by_model catalog q q.model
