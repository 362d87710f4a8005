-- The left side of a rule: its places in order, or a FOR of tuples.
use Rattle.std.specs.Prelude.{ℕ, List, [], ◌∷◌, length, map, Bool, false, Option, Some, Result, Ok, position}
use Rattle.std.specs.Option.{ok_or, option_and_then, option_map, option_map_or}
use Rattle.mq_lexer.specs.Words.{folded}
use Rattle.mq_values.specs.declared.faults.Refused.{Refused}
use Rattle.mq_ast.specs.declared.expressions.E.{E}
use Rattle.mq_ast.specs.declared.queries.LeftPlace.{LeftPlace}
use Rattle.mq_ast.specs.declared.queries.LeftPlace.TheVariants as place
use Rattle.mq_ast.specs.declared.queries.LeftTree.{LeftTree}
use Rattle.mq_ast.specs.declared.queries.LeftTree.TheVariants as tree
use Rattle.mq_ir.specs.declared.catalog.Catalog.{Catalog}
use Rattle.mq_ir.specs.declared.expression.Expr.TheOpen as layer
use Rattle.mq_ir.specs.declared.expression.Test.{Test, out-Test}
use Rattle.mq_ir.specs.declared.expression.Test.TheVariants as test
use Rattle.mq_ir.specs.declared.query.Left.TheVariants as left
use Rattle.mq_ir.specs.declared.query.LeftItem.{LeftItem}
use Rattle.mq_ir.specs.declared.query.LeftItem.TheVariants as item
use Rattle.mq_ir.specs.declared.query.PlainPart.{PlainPart}
use Rattle.mq_ir.specs.Fits.{numbers_each_once}
use Rattle.mq_ir.specs.Results.{◌>>=◌}
use Rattle.mq_ir.specs.Tables.{is_name}
use Rattle.mq_binder.specs.declared.found.LeftFound.{LeftFound}
use Rattle.mq_binder.specs.declared.found.ListFound.{ListFound}
use Rattle.mq_bind_scopes.specs.declared.kinds.ExprKind.{ExprKind}
use Rattle.mq_bind_scopes.specs.declared.misuse_numbers.TheConstants.{MISUSE_OF_FOR, MISUSE_OF_PLACE_COUNT}
use Rattle.mq_bind_scopes.specs.declared.scopes.Named.{Named}
use Rattle.mq_bind_scopes.specs.declared.scopes.Owner.TheVariants as owner
use Rattle.mq_bind_scopes.specs.declared.scopes.Part.TheVariants as part
use Rattle.mq_bind_scopes.specs.declared.scopes.Scope.{Scope}
use Rattle.mq_bind_expr.specs.ExpressionWalk.{bound}
use Rattle.mq_bind_expr.specs.Forms.{is_condition}
use Rattle.mq_bind_scopes.specs.Misuses.{other_place_count}
use Rattle.mq_bind_scopes.specs.Names.{Name}
use Rattle.mq_bind_expr.specs.PlaceTests.{place_of}
use Rattle.mq_bind_scopes.specs.Positions.{bracketed, place_kind, standing}
use Rattle.mq_bind_expr.specs.Steps.{each_with_from}
use Rattle.mq_bind_scopes.specs.Refusals.{misuse, refused_where}
use Rattle.mq_binder.specs.ForWalk.{list_bound, for_checked, names_place, steps_checked}

-- a value names one cell or row of cells, every other test is symbolic
abbrev pub left_item : Test → LeftItem
left_item t = elim (out-Test t) [ layer.At e ↦ item.At e | _ ↦ item.Sym t ]

abbrev pub with_lists : List PlainPart → LeftItem → LeftItem × List PlainPart
with_lists lists i = (i, lists)

-- a place that is an expression, as a value or a condition
abbrev pub expression_place : Scope → ℕ → E → Result LeftItem Refused
expression_place scope n e =
    bound scope e (bracketed (standing part.Left) owner.Main n (is_condition e)) >>= place_of (place_kind scope owner.Main n) e
    >>= (λ p. Ok (left_item p.test))

-- FOR .. FROM at a place
abbrev pub steps_place : Scope → ℕ → Name → Bool → E → E → E → Result LeftItem Refused
steps_place scope n dim down start stop step =
    bound scope start (standing part.Left) >>= (λ a.
    bound scope stop (standing part.Left) >>= (λ b.
    bound scope step (standing part.Left) >>= steps_checked scope n dim down a b))

-- place number n, behind these subqueries
abbrev pub left_place : Catalog → Scope → ℕ → List PlainPart → LeftPlace → Result (LeftItem × List PlainPart) Refused
left_place catalog scope n lists place.Any = Ok (with_lists lists (item.Sym test.Any))
left_place catalog scope n lists (place.Expr e) = expression_place scope n e >>= (λ i. Ok (with_lists lists i))
left_place catalog scope n lists (place.ForIn dim list) =
    list_bound catalog scope lists list >>= for_checked (place_kind scope owner.Main n ∷ []) (names_place scope n dim)
    >>= (λ found. Ok (with_lists found.lists (item.List found.source)))
left_place catalog scope n lists (place.ForRange dim start stop step down) =
    steps_place scope n dim down start stop step >>= (λ i. Ok (with_lists lists i))

abbrev pub left_places : Catalog → Scope → List PlainPart → List LeftPlace → Result (List LeftItem × List PlainPart) Refused
left_places catalog scope lists = each_with_from (left_place catalog scope) 0 lists

-- the dimension that a name of a tuple names
abbrev pub dimension_called : Scope → Name → Option ℕ
dimension_called scope name = position (λ (d : Named). is_name (folded name) d.name) scope.model.dims

abbrev pub kind_called : Scope → Name → Option ExprKind
kind_called scope name = option_and_then (place_kind scope owner.Main) (dimension_called scope name)

abbrev pub numbers_called : Scope → List Name → Option (List ℕ)
numbers_called scope [] = Some []
numbers_called scope (name ∷ names) =
    option_and_then (λ n. option_map (λ ns. n ∷ ns) (numbers_called scope names)) (dimension_called scope name)

abbrev pub names_each : Scope → Option (List ℕ) → Bool
names_each scope numbers = option_map_or (numbers_each_once (length scope.model.dims)) numbers false

abbrev pub tuples_found : Option (List ℕ) → ListFound → Result LeftFound Refused
tuples_found numbers found =
    ok_or numbers (misuse MISUSE_OF_FOR) >>= (λ ns. Ok (record { left = left.Tuples ns found.source; lists = found.lists }))

abbrev pub left_bound : Catalog → Scope → List PlainPart → LeftTree → Result LeftFound Refused
left_bound catalog scope lists (tree.Places places) =
    left_places catalog scope lists places >>= (λ found.
    refused_where (other_place_count scope owner.Main (length found.0)) (misuse MISUSE_OF_PLACE_COUNT) (
    Ok (record { left = left.Places found.0; lists = found.1 })))
left_bound catalog scope lists (tree.Tuples dims list) =
    list_bound catalog scope lists list
    >>= for_checked (map (kind_called scope) dims) (names_each scope (numbers_called scope dims))
    >>= tuples_found (numbers_called scope dims)
