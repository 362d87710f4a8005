-- The first of some tuples that the next one is too.
use Rattle.std.specs.Prelude.{List, [], ◌∷◌, Option, Some, None, if◌then◌else◌}
use Rattle.mq_ir.specs.Keys.{Tuple, is_same}

abbrev pub twice_from : Tuple → List Tuple → Option Tuple
twice_from x [] = None
twice_from x (y ∷ ys) = if is_same x y then Some x else twice_from y ys

abbrev pub first_twice : List Tuple → Option Tuple
first_twice [] = None
first_twice (x ∷ xs) = twice_from x xs
