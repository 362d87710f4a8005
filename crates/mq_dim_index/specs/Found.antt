-- The numbers of the places of keys that stand in another order.
use Rattle.std.specs.Prelude.{ℕ, List, [], ◌∷◌, ◌++◌, Option, Some, None, cond}
use Rattle.mq_values.specs.declared.operators.DimTest.{DimTest}
use Rattle.mq_dim_index.specs.Places.{Tuple, meets_every, place_of}

abbrev pub listed : Option ℕ → List ℕ
listed None = []
listed (Some n) = n ∷ []

-- the number of the place of a key, where it meets the tests
abbrev pub number_if_met : List DimTest → List Tuple → Tuple → Option ℕ
number_if_met tests keys key = cond (meets_every tests key) (place_of keys key) None

-- the numbers of those of other keys that meet the tests
abbrev pub noted : List DimTest → List Tuple → List Tuple → List ℕ
noted tests keys [] = []
noted tests keys (key ∷ others) = listed (number_if_met tests keys key) ++ noted tests keys others
