-- Rows of which the first place alone is wanted.
use Rattle.std.proofs.Common.{◌≡◌, ℕ, List, [], ◌∷◌, map, slice_index_or, Result, Ok, Err, refl, ap, ◌∙◌}
use Rattle.mq_values.specs.declared.faults.ValueFault.{ValueFault}
use Rattle.mq_values.specs.declared.value.Kind.{Kind}
use Rattle.mq_values.specs.declared.value.Value.{Value}
use Rattle.mq_ir.specs.declared.expression.Expr.{Expr}
use Rattle.mq_ir.specs.declared.query.SinglePlace.{SinglePlace}
use Rattle.mq_ir.specs.Results.{◌>>=◌, each}
use Rattle.mq_ir.specs.Unfolding.{Model, left_leaves, listed, listed_value}
use Rattle.mq_ir.specs.declared.query.ListSource.TheVariants.{Rows, Values}
use Rattle.mq_unfold.specs.Rows.{first_listed, first_of, first_value, listed_places, row_listed, row_values}

-- what is taken of each row, taken row by row
module _ {A B C E : Type 0} (f : A → Result B E) (h : B → C) (g : A → Result C E) (taken : (x : A) → (f x >>= (λ r. Ok (h r))) ≡ g x) where
  one_more : (r : Result B E) (rest : Result (List B) E) → ((r >>= (λ y. rest >>= (λ ys. Ok (y ∷ ys)))) >>= (λ rs. Ok (map h rs))) ≡ ((r >>= (λ y. Ok (h y))) >>= (λ z. (rest >>= (λ rs. Ok (map h rs))) >>= (λ zs. Ok (z ∷ zs))))
  one_more (Ok y) (Ok ys) = refl
  one_more (Ok y) (Err fault) = refl
  one_more (Err fault) rest = refl

  pub each_taken : (xs : List A) → (each f xs >>= (λ rs. Ok (map h rs))) ≡ each g xs
  each_taken [] = refl
  each_taken (x ∷ xs) =
      one_more (f x) (each f xs)
      ∙ (λ i. taken x i >>= (λ z. each_taken xs i >>= (λ zs. Ok (z ∷ zs))))

alone : (r : Result SinglePlace ValueFault) → ((r >>= (λ y. Ok (y ∷ []))) >>= (λ row. Ok (first_of row))) ≡ r
alone (Ok y) = refl
alone (Err fault) = refl

listed_first : (turn : ℕ) (kind : Kind) (row : List Expr) → (row_listed turn (kind ∷ []) row >>= (λ r. Ok (first_of r))) ≡ first_listed turn kind row
listed_first turn kind [] = refl
listed_first turn kind (e ∷ es) = alone (listed (left_leaves turn) kind e)

value_first : (kind : Kind) (row : List Value) → (row_values (kind ∷ []) row >>= (λ r. Ok (first_of r))) ≡ first_value kind row
value_first kind [] = refl
value_first kind (v ∷ vs) = alone (listed_value kind v)

pub listed_values : (model : Model) (turn : ℕ) (kind : Kind) (rows : List (List Expr)) → listed_places model turn kind (Values rows) ≡ each (first_listed turn kind) rows
listed_values model turn kind rows = each_taken (row_listed turn (kind ∷ [])) first_of (first_listed turn kind) (listed_first turn kind) rows

pub listed_rows : (model : Model) (turn : ℕ) (kind : Kind) (list : ℕ) → listed_places model turn kind (Rows list) ≡ each (first_value kind) (slice_index_or model.lists list [])
listed_rows model turn kind list = each_taken (row_values (kind ∷ [])) first_of (first_value kind) (value_first kind) (slice_index_or model.lists list [])
