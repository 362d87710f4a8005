-- One of each list, in every way.
use Rattle.std.specs.Prelude.{List, [], ◌∷◌, map}
use Rattle.std.specs.List.{flat_map}

-- all ways to take one item of each list, in the order of the lists: the first list turns slowest and the last fastest
abbrev pub combinations : {A : Type 0} → List (List A) → List (List A)
combinations [] = [] ∷ []
combinations (xs ∷ lists) = flat_map (λ x. map (λ rest. x ∷ rest) (combinations lists)) xs
