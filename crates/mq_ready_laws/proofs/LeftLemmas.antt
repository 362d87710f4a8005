-- A left side has a place for each dimension of the model that it stands in.
use Rattle.std.proofs.Common.{◌≡◌, ℕ, List, length, ◌==◌, Result, Ok, subst}
use Rattle.std.specs.Option.{ok_or}
use Rattle.std.specs.Prelude.{map}
use Rattle.mq_values.specs.declared.faults.Refused.{Refused}
use Rattle.mq_ast.specs.declared.queries.LeftTree.{LeftTree}
use Rattle.mq_ast.specs.declared.queries.LeftTree.TheVariants as tree
use Rattle.mq_ir.specs.declared.catalog.Catalog.{Catalog}
use Rattle.mq_ir.specs.declared.query.Left.TheVariants as left
use Rattle.mq_ir.specs.declared.query.LeftItem.{LeftItem}
use Rattle.mq_ir.specs.declared.query.PlainPart.{PlainPart}
use Rattle.mq_ir.specs.Results.{◌>>=◌}
use Rattle.mq_ir.specs.Ready.{LeftHasPlaces}
use Rattle.mq_bind_scopes.specs.declared.misuse_numbers.TheConstants.{MISUSE_OF_FOR, MISUSE_OF_PLACE_COUNT}
use Rattle.mq_bind_scopes.specs.declared.scopes.Owner.TheVariants as owner
use Rattle.mq_bind_scopes.specs.declared.scopes.Scope.{Scope}
use Rattle.mq_bind_scopes.specs.Misuses.{other_place_count}
use Rattle.mq_bind_scopes.specs.Refusals.{misuse, refused_where}
use Rattle.mq_binder.specs.declared.found.LeftFound.{LeftFound}
use Rattle.mq_binder.specs.ForWalk.{for_checked, list_bound}
use Rattle.mq_binder.specs.LeftWalk.{kind_called, left_bound, left_places, names_each, numbers_called, tuples_found}
use Rattle.mq_ready_laws.proofs.StepLemmas.{ok_is, passed, same_of, was_not, went}

abbrev HasPlaces : Scope → LeftFound → Type 0
HasPlaces scope x = LeftHasPlaces (length scope.model.dims) x.left

pub left_has_places : (catalog : Catalog) (scope : Scope) (lists : List PlainPart) (t : LeftTree) (x : LeftFound) → left_bound catalog scope lists t ≡ Ok x
    → LeftHasPlaces (length scope.model.dims) x.left
left_has_places catalog scope lists (tree.Places places) x h =
    let made : List LeftItem × List PlainPart → LeftFound = λ found. record { left = left.Places found.0; lists = found.1 } in
    let next : List LeftItem × List PlainPart → Result LeftFound Refused =
    λ found. refused_where (other_place_count scope owner.Main (length found.0)) (misuse MISUSE_OF_PLACE_COUNT) (Ok (made found)) in
    let w = went (left_places catalog scope lists places) next x h in
    let p = passed (other_place_count scope owner.Main (length w.value.0)) (misuse MISUSE_OF_PLACE_COUNT) (Ok (made w.value)) x w.after in
    let n = same_of (length w.value.0) (length scope.model.dims) (was_not (length w.value.0 == length scope.model.dims) p.holds_not) in
    subst (HasPlaces scope) (ok_is (made w.value) x p.after) n
left_has_places catalog scope lists (tree.Tuples dims list) x h =
    let numbers = numbers_called scope dims in
    let w = went (list_bound catalog scope lists list >>= for_checked (map (kind_called scope) dims) (names_each scope numbers)) (tuples_found numbers) x h in
    let made : List ℕ → LeftFound = λ ns. record { left = left.Tuples ns w.value.source; lists = w.value.lists } in
    let v = went (ok_or numbers (misuse MISUSE_OF_FOR)) (λ ns. Ok (made ns)) x w.after in
    subst (HasPlaces scope) (ok_is (made v.value) x v.after) tt
