-- Lists that rise by an order; items that it finds equal may stand in any order.
use Rattle.std.specs.Prelude.{◌≡◌, List, [], ◌∷◌, false}
use Rattle.std.specs.Ordering.{is_lt}
use Rattle.std.specs.declared.cmp.Ordering.{Ordering}

-- no item is less than x
abbrev pub Low : {K : Type 0} → (K → K → Ordering) → K → List K → Type 0
Low R x [] = Unit {0}
Low R x (y ∷ ys) = (is_lt (R y x) ≡ false) × Low R x ys

-- no item is less than an earlier one
abbrev pub Rising : {K : Type 0} → (K → K → Ordering) → List K → Type 0
Rising R [] = Unit {0}
Rising R (x ∷ xs) = Low R x xs × Rising R xs
