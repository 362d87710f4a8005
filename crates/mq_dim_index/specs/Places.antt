-- Ascending lists of keys, and the numbers of the places at which keys stand in them.
use Rattle.std.specs.Prelude.{◌≡◌, ℕ, ◌<◌, ◌≤◌, Bool, true, false, List, Option, Some, None, length, map, slice_index_or}
use Rattle.std.specs.BTreeMap.{is_at}
use Rattle.std.specs.BTreeSet.{insert_key}
use Rattle.std.specs.List.{enumerate_from, filter, insert, list_all, list_any, position, remove, zip}
use Rattle.std.specs.Set.{remove_key}
use Rattle.mq_values.specs.DimTests.{meets}
use Rattle.mq_values.specs.Order.{cmp_key}
use Rattle.mq_values.specs.declared.operators.DimTest.{DimTest}
use Rattle.mq_values.specs.declared.value.Value.{Value}

-- the values of a key, one for each dimension
abbrev pub Tuple : Type 0
Tuple = List Value

-- the number of the place at which this key stands, where it does
abbrev pub place_of : List Tuple → Tuple → Option ℕ
place_of keys key = position (is_at (cmp_key key)) keys

-- whether this key is there
abbrev pub is_there : List Tuple → Tuple → Bool
is_there keys key = list_any (is_at (cmp_key key)) keys

-- the keys, with this one at its place, unless it is there
abbrev pub with_key : List Tuple → Tuple → List Tuple
with_key keys key = insert_key cmp_key keys key

-- the keys without this one
abbrev pub without_key : List Tuple → Tuple → List Tuple
without_key keys key = remove_key (is_at (cmp_key key)) keys

-- a key that meets the test of each dimension
abbrev pub meets_every : List DimTest → Tuple → Bool
meets_every tests key = list_all (λ (test, v). meets v test) (zip tests key)

-- the numbers of the keys that meet the tests, ascending, where the first key has number n
abbrev pub places_from : ℕ → List DimTest → List Tuple → List ℕ
places_from n tests keys = map (λ e. e.0) (filter (λ e. meets_every tests e.1) (enumerate_from n keys))

-- the numbers of the keys that meet the tests, ascending
abbrev pub places_meeting : List DimTest → List Tuple → List ℕ
places_meeting tests keys = places_from 0 tests keys

-- a key stands at this place
pub record StandsAt (keys : List Tuple) (key : Tuple) (at : ℕ) : Type 0 where
  pub below : at < length keys
  pub there : is_there keys key ≡ true
  pub found : place_of keys key ≡ Some at
  pub itself : (other : Tuple) → slice_index_or keys at other ≡ key
  pub removed : remove keys at ≡ without_key keys key
  pub kept : with_key keys key ≡ keys

-- a key is not there, and its place would be this one
pub record FitsAt (keys : List Tuple) (key : Tuple) (at : ℕ) : Type 0 where
  pub within : at ≤ length keys
  pub lacking : is_there keys key ≡ false
  pub absent : place_of keys key ≡ None
  pub inserted : insert keys at key ≡ with_key keys key
  pub unchanged : without_key keys key ≡ keys
