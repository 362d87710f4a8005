-- Keys in ascending order of which some went, and stand there still.
use Rattle.std.specs.Prelude.{◌≡◌, List, true, not}
use Rattle.std.specs.List.{filter}
use Rattle.std.specs.List.Sorted.{IsStrictlySortedBy}
use Rattle.mq_values.specs.Order.{cmp_key}
use Rattle.mq_ir.specs.Keys.{Tuple, is_among}

-- those that did not go
abbrev pub standing : List Tuple → List Tuple → List Tuple
standing gone keys = filter (λ key. not (is_among gone key)) keys

-- each is greater than those before it, and those that went are among them
pub record Ascend (gone keys : List Tuple) : Type 0 where
  pub ascend : IsStrictlySortedBy cmp_key keys
  pub within : (key : Tuple) → is_among gone key ≡ true → is_among keys key ≡ true
