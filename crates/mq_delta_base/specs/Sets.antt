-- Lists of tuples of places that ascend, as sets.
use Rattle.std.specs.Prelude.{◌≡◌, ℕ, true, List, [], ◌∷◌, ◌⊎◌}
use Rattle.std.specs.Cmp.Lexicographic.{slice_cmp}
use Rattle.std.specs.Ordering.{nat_cmp}
use Rattle.std.specs.declared.cmp.Ordering.{Ordering}
use Rattle.std.specs.Set.{sorted_merge}
use Rattle.mq_ir.specs.BaseRows.{Places}

-- an item is among these
abbrev pub In : {A : Type 0} → A → List A → Type 0
In q [] = ⊥
In q (x ∷ xs) = (q ≡ x) ⊎ In q xs

-- by the first place at which they differ
abbrev pub cmp_places : Places → Places → Ordering
cmp_places = slice_cmp nat_cmp

-- the tuples of either of two lists that ascend
abbrev pub union : List Places → List Places → List Places
union = sorted_merge cmp_places true
