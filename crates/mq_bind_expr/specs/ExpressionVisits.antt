-- What the trees of an expression mean where they stand, and the visit of parts from left to right.
use Rattle.std.specs.Prelude.{ℕ, List, Option, Some, None, Result, Ok}
use Rattle.mq_values.specs.declared.faults.Refused.{Refused}
use Rattle.mq_values.specs.declared.operators.ProdOp.{ProdOp}
use Rattle.mq_values.specs.declared.operators.SumOp.{SumOp}
use Rattle.mq_ast.specs.declared.expressions.Arm.{Arm}
use Rattle.mq_ast.specs.declared.expressions.E.{E}
use Rattle.mq_ast.specs.declared.expressions.E.TheOpen as layer
use Rattle.mq_ast.specs.declared.expressions.Place.{Place}
use Rattle.mq_ast.specs.declared.expressions.ProdTerm.{ProdTerm}
use Rattle.mq_ast.specs.declared.expressions.SumTerm.{SumTerm}
use Rattle.mq_ir.specs.declared.expression.Expr.{Expr}
use Rattle.mq_ir.specs.declared.expression.Test.{Test}
use Rattle.mq_ir.specs.Results.{◌>>=◌, each}
use Rattle.mq_bind_scopes.specs.declared.scopes.Found.{Found}
use Rattle.mq_bind_scopes.specs.declared.scopes.Owner.{Owner}
use Rattle.mq_bind_scopes.specs.declared.scopes.Owner.TheVariants as owner
use Rattle.mq_bind_scopes.specs.declared.scopes.Placed.{Placed}
use Rattle.mq_bind_scopes.specs.declared.scopes.Position.{Position}
use Rattle.mq_bind_scopes.specs.declared.scopes.Scope.{Scope}
use Rattle.mq_bind_expr.specs.NameNodes.{Walked}
use Rattle.mq_bind_expr.specs.FunctionNodes.{ArmFound}
use Rattle.mq_bind_expr.specs.PlaceTests.{index_of}
use Rattle.mq_bind_scopes.specs.Positions.{is_left, place_kind}

-- what a tree is bound to where it stands; a place also by whose bracket it is in, and by its number there
abbrev pub Meaning : Type 0
Meaning = Position → Walked

abbrev pub PlaceMeaning : Type 0
PlaceMeaning = Position → Owner → ℕ → Result Placed Refused

abbrev pub ArmMeaning : Type 0
ArmMeaning = Position → Result ArmFound Refused

abbrev pub ELayer : Type 0
ELayer = layer.E-F (E × Meaning) (Place × PlaceMeaning) (Arm × ArmMeaning) (ProdTerm × Meaning) (SumTerm × Meaning)

abbrev pub PlaceLayer : Type 0
PlaceLayer = layer.Place-F (E × Meaning) (Place × PlaceMeaning) (Arm × ArmMeaning) (ProdTerm × Meaning) (SumTerm × Meaning)

abbrev pub ArmLayer : Type 0
ArmLayer = layer.Arm-F (E × Meaning) (Place × PlaceMeaning) (Arm × ArmMeaning) (ProdTerm × Meaning) (SumTerm × Meaning)

abbrev pub ProdLayer : Type 0
ProdLayer = layer.ProdTerm-F (E × Meaning) (Place × PlaceMeaning) (Arm × ArmMeaning) (ProdTerm × Meaning) (SumTerm × Meaning)

abbrev pub SumLayer : Type 0
SumLayer = layer.SumTerm-F (E × Meaning) (Place × PlaceMeaning) (Arm × ArmMeaning) (ProdTerm × Meaning) (SumTerm × Meaning)

-- parts from left to right
abbrev pub visited : Position → List (E × Meaning) → Result (List Found) Refused
visited at = each (λ (part : E × Meaning). part.1 at)

abbrev pub visited_sums : Position → List (SumTerm × Meaning) → Result (List (SumOp × Found)) Refused
visited_sums at = each (λ (term : SumTerm × Meaning). term.1 at >>= (λ f. Ok (term.0.op, f)))

abbrev pub visited_prods : Position → List (ProdTerm × Meaning) → Result (List (ProdOp × Found)) Refused
visited_prods at = each (λ (term : ProdTerm × Meaning). term.1 at >>= (λ f. Ok (term.0.op, f)))

abbrev pub visited_arms : Position → List (Arm × ArmMeaning) → Result (List ArmFound) Refused
visited_arms at = each (λ (arm : Arm × ArmMeaning). arm.1 at)

abbrev pub visited_if_any : Position → Option (E × Meaning) → Result (Option Found) Refused
visited_if_any at None = Ok None
visited_if_any at (Some part) = part.1 at >>= (λ f. Ok (Some f))

-- the places of a single cell give indices, those of a range tests
abbrev pub index_at : Scope → Position → Owner → ℕ → Place × PlaceMeaning → Result Expr Refused
index_at scope at owner n place = place.1 at owner n >>= index_of (is_left at.part) (place_kind scope owner n)

abbrev pub test_at : Position → ℕ → Place × PlaceMeaning → Result Test Refused
test_at at n place = place.1 at owner.Main n >>= (λ p. Ok p.test)
