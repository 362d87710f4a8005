-- Lists and sets of tuples, by what is among them.
use Rattle.std.specs.Prelude.{◌≡◌, List, Bool}
use Rattle.std.specs.List.{list_any}
use Rattle.std.specs.Ordering.{is_eq}
use Rattle.mq_values.specs.Order.{cmp_key}
use Rattle.mq_values.specs.declared.value.Value.{Value}

-- the values of a row, of a dimension tuple, of a partition key, or of the measures of a cell
abbrev pub Tuple : Type 0
Tuple = List Value

-- the same tuple: null meets null, and 1 and 1.0 are two tuples
abbrev pub is_same : Tuple → Tuple → Bool
is_same a b = is_eq (cmp_key a b)

abbrev pub is_among : List Tuple → Tuple → Bool
is_among keys key = list_any (is_same key) keys

-- the same keys are among these
abbrev pub HasKeysOf : List Tuple → List Tuple → Type 0
HasKeysOf keys set = (key : Tuple) → is_among set key ≡ is_among keys key
