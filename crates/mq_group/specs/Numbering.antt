-- Keys one after another: the place of each among the distinct ones, and the places of the rows that have it.
use Rattle.std.specs.Prelude.{◌≡◌, ℕ, ◌+◌, List, [], ◌∷◌, Option, None, Some, map, take, if◌then◌else◌}
use Rattle.std.specs.BTreeMap.{BTreeMap, get}
use Rattle.std.specs.List.{enumerate_from, filter}
use Rattle.std.specs.Option.{option_map}
use Rattle.mq_values.specs.Order.{cmp_key}
use Rattle.mq_ir.specs.Keys.{Tuple, each_first, is_same}

-- the place of a key, where it is among these
abbrev pub place_in : List Tuple → Tuple → Option ℕ
place_in [] q = None
place_in (k ∷ ks) q = if is_same q k then Some 0 else option_map (λ n. n + 1) (place_in ks q)

-- the places, counted from s, of those that are k
abbrev pub places_from : ℕ → List Tuple → Tuple → List ℕ
places_from s keys k = map (λ p. p.0) (filter (λ p. is_same k p.1) (enumerate_from s keys))

-- the first n of these keys are in their groups, whose numbers stand beside the keys
pub record AreGrouped (keys : List Tuple) (n : ℕ) (numbers : BTreeMap Tuple ℕ) (groups : List (List ℕ)) : Type 0 where
  pub numbered : (q : Tuple) → get cmp_key numbers q ≡ place_in (each_first (take n keys)) q
  pub grouped : groups ≡ map (places_from 0 (take n keys)) (each_first (take n keys))
