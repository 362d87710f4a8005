-- An aggregate that takes the values of a list one by one.
use Rattle.std.proofs.Common.{◌≡◌, ℕ, ◌+◌, ◌<◌, ◌≤◌, List, [], ◌∷◌, drop, length, map, get_or, Result, Ok, Err, refl, sym, ap, ◌∙◌, add-one, drop-cons}
use Rattle.std.proofs.lemmas.List.{drop_all}
use Rattle.mq_values.specs.Aggregate.{aggregate}
use Rattle.mq_values.specs.declared.faults.ValueFault.{ValueFault}
use Rattle.mq_values.specs.declared.operators.Agg.{Agg}
use Rattle.mq_values.specs.declared.value.Value.{Value}
use Rattle.mq_ir.specs.Expression.{Outcome}
use Rattle.mq_ir.specs.Results.{◌>>=◌, each, marked}
use Rattle.mq_reads.specs.Aggregation.{comes_to}
use Rattle.mq_reads.specs.declared.aggregates.Aggregation.{Aggregation}

-- with the first i values taken
pub record Taking {A : Type 0} (f : A → Outcome) (xs : List A) (agg : Agg) (i : ℕ) (a : Aggregation) : Type 0 where
  pub is : (each f xs >>= aggregate agg) ≡ (each f (drop i xs) >>= comes_to a)

module _ {A : Type 0} (f : A → Outcome) (xs : List A) (agg : Agg) where
  next_item : (i : ℕ) (x : A) → i < length xs → x ≡ get_or xs i x → drop i xs ≡ x ∷ drop (i + 1) xs
  next_item i x h e = drop-cons xs i x h ∙ (λ j. sym e j ∷ drop (sym (add-one i) j) xs)

  one_taken : (a b : Aggregation) (v : Value) → ((vs : List Value) → comes_to b vs ≡ comes_to a (v ∷ vs)) → (r : Result (List Value) ValueFault) → ((r >>= (λ vs. Ok (v ∷ vs))) >>= comes_to a) ≡ (r >>= comes_to b)
  one_taken a b v h (Ok vs) = sym (h vs)
  one_taken a b v h (Err fault) = refl

  pub taking_fault : (i : ℕ) (a : Aggregation) (x : A) (fault : ValueFault) → i < length xs → x ≡ get_or xs i x → f x ≡ Err fault → Taking f xs agg i a → (each f xs >>= aggregate agg) ≡ Err fault
  taking_fault i a x fault h e g w =
      w.is
      ∙ ap (λ l. each f l >>= comes_to a) (next_item i x h e)
      ∙ ap (λ r. (r >>= (λ y. each f (drop (i + 1) xs) >>= (λ ys. Ok (y ∷ ys)))) >>= comes_to a) g

  pub taking_end : (i : ℕ) (a : Aggregation) → length xs ≤ i → Taking f xs agg i a → (each f xs >>= aggregate agg) ≡ comes_to a []
  taking_end i a h w = w.is ∙ ap (λ l. each f l >>= comes_to a) (drop_all i xs h)

-- steps of which each may fail, over what a function gives, and marked
pub each_map : {A B C E : Type 0} (f : B → Result C E) (h : A → B) (xs : List A) → each f (map h xs) ≡ each (λ x. f (h x)) xs
each_map f h [] = refl
each_map f h (x ∷ xs) = ap (λ r. f (h x) >>= (λ y. r >>= (λ ys. Ok (y ∷ ys)))) (each_map f h xs)

mark_step : {B E F : Type 0} (mark : E → F) (r : Result B E) (rest : Result (List B) E)
    → marked mark (r >>= (λ y. rest >>= (λ ys. Ok (y ∷ ys)))) ≡ (marked mark r >>= (λ y. marked mark rest >>= (λ ys. Ok (y ∷ ys))))
mark_step mark (Ok y) (Ok ys) = refl
mark_step mark (Ok y) (Err fault) = refl
mark_step mark (Err fault) rest = refl

pub each_marked : {A B E F : Type 0} (mark : E → F) (f : A → Result B E) (xs : List A) → marked mark (each f xs) ≡ each (λ x. marked mark (f x)) xs
each_marked mark f [] = refl
each_marked mark f (x ∷ xs) =
    mark_step mark (f x) (each f xs)
    ∙ ap (λ r. marked mark (f x) >>= (λ y. r >>= (λ ys. Ok (y ∷ ys)))) (each_marked mark f xs)
