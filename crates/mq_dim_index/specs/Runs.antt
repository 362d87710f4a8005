-- Where the keys that can meet a test of one dimension begin and end among keys that ascend by their values there.
use Rattle.std.specs.Prelude.{◌≡◌, ◌≢◌, ℕ, ◌<◌, ◌≤◌, Bool, true, false, List, [], ◌∷◌, Option, Some, None, length, slice_index_or, unwrap_or}
use Rattle.std.specs.List.{AllWithin, slice_get}
use Rattle.std.specs.Option.{option_cmp}
use Rattle.std.specs.Ordering.{then_cmp}
use Rattle.std.specs.declared.cmp.Ordering.{Ordering}
use Rattle.std.specs.declared.cmp.Ordering.TheVariants.{Less, Greater}
use Rattle.mq_values.specs.DimTests.{meets}
use Rattle.mq_values.specs.Order.{cmp_key, cmp_value, compared}
use Rattle.mq_values.specs.declared.operators.DimTest.{DimTest}
use Rattle.mq_values.specs.declared.value.Value.{Value}
use Rattle.mq_dim_index.specs.Places.{Tuple, meets_every}

-- keys by their values in a dimension; a key without one comes first
abbrev pub cmp_in : ℕ → Tuple → Tuple → Ordering
cmp_in d a b = option_cmp cmp_value (slice_get a d) (slice_get b d)

-- the order of the map of a dimension: by the values there, and where these are the same by all values
abbrev pub cmp_from : ℕ → Tuple → Tuple → Ordering
cmp_from d = then_cmp (cmp_in d) cmp_key

-- keys of which none stands behind one with a greater value in this dimension
abbrev pub AscendIn : ℕ → List Tuple → Type 0
AscendIn d keys = (i j : ℕ) (other : Tuple) → i < j → j < length keys → cmp_in d (slice_index_or keys i other) (slice_index_or keys j other) ≢ Greater

-- as a comparison finds two values, where it tells, and else as their order does: numbers of one worth are not told apart
abbrev pub cmp_by_worth : Value → Value → Ordering
cmp_by_worth v w = unwrap_or (compared v w) (cmp_value v w)

-- how the value of a key stands to another; where there is none it stands below all
abbrev pub cmp_bound : Option Value → Value → Ordering
cmp_bound None w = Less
cmp_bound (Some v) w = cmp_by_worth v w

-- no value that meets the test stands on this side of w
abbrev pub IsBound : DimTest → Ordering → Value → Type 0
IsBound test side w = (v : Value) → meets v test ≡ true → cmp_by_worth v w ≢ side

abbrev pub has_value : Option Value → Bool
has_value None = false
has_value (Some v) = true

-- whether the first of these keys has a value in this dimension
abbrev pub first_has_value : ℕ → List Tuple → Bool
first_has_value d [] = false
first_has_value d (key ∷ keys) = has_value (slice_get key d)

-- a value does not meet this test; where there is none nothing is asked
abbrev pub value_meets : DimTest → Option Value → Bool
value_meets test None = true
value_meets test (Some v) = meets v test

-- a key does not meet this test of one dimension
abbrev pub Misses : ℕ → DimTest → Tuple → Type 0
Misses d test key = value_meets test (slice_get key d) ≡ false

-- keys in a row, which ends behind this place, where all keys from this place on to the row have P
pub record NextRow (P : Tuple → Type 0) (keys : List Tuple) (from : ℕ) (start : ℕ) (end : ℕ) : Type 0 where
  pub behind : from ≤ start
  pub ordered : start ≤ end
  pub further : from < end
  pub within : end ≤ length keys
  pub between : AllWithin P keys from start

-- a key does not meet all tests
abbrev pub MissesOne : List DimTest → Tuple → Type 0
MissesOne tests key = meets_every tests key ≡ false

-- of the first i values the least that is not below the value of a key, by worth; none, where all are below it
abbrev pub IsLeastSoFar : List Value → Option Value → ℕ → Option Value → Type 0
IsLeastSoFar ws own i None = (k : ℕ) (other : Value) → k < i → cmp_bound own (slice_index_or ws k other) ≡ Greater
IsLeastSoFar ws own i (Some w) =
    (cmp_bound own w ≢ Greater) ×
    ((k : ℕ) (other : Value) → k < i → cmp_bound own (slice_index_or ws k other) ≢ Greater → cmp_by_worth w (slice_index_or ws k other) ≢ Greater)
