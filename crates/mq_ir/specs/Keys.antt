-- Sets of dimension tuples.
use Rattle.std.specs.Prelude.{List, [], ◌∷◌, not}
use Rattle.std.specs.List.{filter}
pub use Rattle.mq_values.specs.KeySets.{Tuple, is_among, is_same}

-- these keys, each once, in order of their first
abbrev pub each_first : List Tuple → List Tuple
each_first [] = []
each_first (key ∷ keys) = key ∷ filter (λ k. not (is_same key k)) (each_first keys)
