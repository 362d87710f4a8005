-- Faults of a list, marked.
use Rattle.std.proofs.Common.{◌≡◌, List, [], ◌∷◌, Result, Ok, Err, refl, ap}
use Rattle.mq_ir.specs.Results.{◌>>=◌, each, marked}

-- a fault of a list is marked as that of its item
pub marked_each : {A B E F : Type 0} (mark : E → F) (f : A → Result B E) (xs : List A) → marked mark (each f xs) ≡ each (λ x. marked mark (f x)) xs
marked_each mark f [] = refl
marked_each {A} {B} {E} {F} mark f (x ∷ xs) = by (f x) (each f xs) (marked_each mark f xs)
  where
    by : (r : Result B E) (q : Result (List B) E) → marked mark q ≡ each (λ x. marked mark (f x)) xs
        → marked mark (r >>= (λ y. q >>= (λ ys. Ok (y ∷ ys)))) ≡ (marked mark r >>= (λ y. each (λ x. marked mark (f x)) xs >>= (λ ys. Ok (y ∷ ys))))
    by (Ok y) (Ok ys) h = ap (λ q. q >>= (λ ys. Ok (y ∷ ys))) h
    by (Ok y) (Err e) h = ap (λ q. q >>= (λ ys. Ok (y ∷ ys))) h
    by (Err e) q h = refl
