-- Left sides that do not know the turn.
use Rattle.std.proofs.Common.{◌≡◌, ℕ, ◌+◌, List, [], ◌∷◌, Ok, refl, sym, ap, ◌∙◌}
use Rattle.std.specs.Prelude.{if◌then◌else◌}
use Rattle.std.specs.List.{All, enumerate_from}
use Rattle.mq_values.specs.Convert.{cast_of}
use Rattle.mq_values.specs.declared.value.Value.{Value}
use Rattle.mq_ir.specs.declared.expression.Expr.TheVariants as expr
use Rattle.mq_ir.specs.declared.query.LeftItem.{LeftItem}
use Rattle.mq_ir.specs.declared.query.LeftItem.TheVariants.{At}
use Rattle.mq_ir.specs.declared.query.Left.TheVariants.{Places}
use Rattle.mq_ir.specs.declared.query.SinglePlace.TheVariants as place
use Rattle.mq_ir.specs.Combinations.{combinations}
use Rattle.mq_ir.specs.Expression.{Outcome, ev}
use Rattle.mq_ir.specs.ExpressionLaws.{worth_lit}
use Rattle.mq_ir.specs.Results.{◌>>=◌, each}
use Rattle.mq_ir.specs.Unfolding.{Model, item_places, kind_at, left_leaves}
use Rattle.mq_ir.specs.Worth.{as_value}
use Rattle.mq_ir.specs.EachLaws.{Each, each_in}
use Rattle.mq_unfold.specs.FixedLefts.{IsSteady, IsSteadyLeft}

-- a literal is the same in every turn
pub literal_steady : (v : Value) → IsSteady (At (expr.Lit v))
literal_steady v = λ model dim turn other. ap (λ (r : Outcome). r >>= (λ w. cast_of w (kind_at model dim)) >>= (λ w. Ok (place.At w)) >>= (λ p. Ok (p ∷ []))) (is turn ∙ sym (is other))
  where
    is : (turn : ℕ) → ev (left_leaves turn) (expr.Lit v) ≡ Ok v
    is turn = ap as_value (worth_lit (left_leaves turn) v)

each_steady : (model : Model) (turn other n : ℕ) (items : List LeftItem) → Each IsSteady items
    → each (item_places model turn) (enumerate_from n items) ≡ each (item_places model other) (enumerate_from n items)
each_steady model turn other n [] a = refl
each_steady model turn other n (item ∷ items) a =
    λ i. a.0 model n turn other i >>= (λ y. each_steady model turn other (n + 1) items a.1 i >>= (λ ys. Ok (y ∷ ys)))

pub places_steady : (items : List LeftItem) → All IsSteady items → IsSteadyLeft (Places items)
places_steady items a = λ model turn other. ap (λ r. r >>= (λ lists. Ok (combinations lists))) (each_steady model turn other 0 items (each_in IsSteady items a))
