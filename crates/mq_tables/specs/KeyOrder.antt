-- The keys that are kept beside rows, so that one is found again.
use Rattle.std.specs.Prelude.{◌≡◌, ◌≢◌, ℕ, List, [], ◌||◌, ◌&&◌, not, cond, false, map, Some, None, Result, Ok, Err, slice_index_or}
use Rattle.std.specs.Option.{option_map}
use Rattle.mq_values.specs.declared.faults.Refused.{Refused}
use Rattle.mq_values.specs.declared.faults.Refused.TheVariants as refused
use Rattle.mq_values.specs.declared.memory.Fail.{Fail}
use Rattle.mq_values.specs.declared.memory.Fail.TheVariants as fail
use Rattle.mq_values.specs.declared.value.Value.TheVariants.{Null}
use Rattle.mq_ir.specs.declared.statement.Schema.{Schema}
use Rattle.mq_ir.specs.Changes.{first_repeated, key_fault}
use Rattle.mq_ir.specs.Keys.{Tuple, is_among, is_same}
use Rattle.mq_ir.specs.Statement.{unless_refused}

-- the key of a row by these columns
abbrev pub keys_by : List ℕ → List Tuple → List Tuple
keys_by columns rows = map (λ row. map (λ c. slice_index_or row c Null) columns) rows

-- what is among two lists of keys is among the third, and nothing else
abbrev pub HoldsBoth : List Tuple → List Tuple → List Tuple → Type 0
HoldsBoth some others all = (key : Tuple) → is_among all key ≡ (is_among some key || is_among others key)

-- what is among one list of keys is among the other, and nothing else
abbrev pub HoldsSame : List Tuple → List Tuple → Type 0
HoldsSame some all = (key : Tuple) → is_among all key ≡ is_among some key

-- a key is put to others
abbrev pub PutsTo : Tuple → List Tuple → List Tuple → Type 0
PutsTo key others all = (other : Tuple) → is_among all other ≡ (is_same other key || is_among others other)

-- What comes of new keys behind earlier ones: what is among them, or the first of them that repeats one before it.
abbrev pub Repeats : List Tuple → List Tuple → Refused → Type 0
Repeats earlier keys e = option_map refused.DuplicateKey (first_repeated earlier keys) ≡ Some e

-- these are keys that repeat none before them
abbrev pub Adds : List Tuple → List Tuple → Result (List Tuple) (Fail Refused) → Type 0
Adds earlier keys (Ok new) = (first_repeated earlier keys ≡ None) × ((key : Tuple) → is_among new key ≡ is_among keys key)
Adds earlier keys (Err (fail.Cause e)) = Repeats earlier keys e
Adds earlier keys (Err fail.Memory) = Unit {0}

-- the same together with the earlier keys
abbrev pub Grows : List Tuple → List Tuple → Result (List Tuple) (Fail Refused) → Type 0
Grows earlier keys (Ok all) = (first_repeated earlier keys ≡ None) × HoldsBoth keys earlier all
Grows earlier keys (Err (fail.Cause e)) = Repeats earlier keys e
Grows earlier keys (Err fail.Memory) = Unit {0}

-- the same where the keys are put to those that stand; after want of memory any of them may be there
abbrev pub GrowsTo : List Tuple → List Tuple → List Tuple → Result (Unit {0}) (Fail Refused) → Type 0
GrowsTo earlier keys after (Ok done) = (first_repeated earlier keys ≡ None) × HoldsBoth keys earlier after
GrowsTo earlier keys after (Err (fail.Cause e)) = Repeats earlier keys e × (after ≡ earlier)
GrowsTo earlier keys after (Err fail.Memory) = Unit {0}

-- keys without some of them
abbrev pub Loses : List Tuple → List Tuple → List Tuple → Type 0
Loses all gone left = (key : Tuple) → is_among left key ≡ (is_among all key && not (is_among gone key))

-- keys without one of them
abbrev pub LosesOne : Tuple → List Tuple → List Tuple → Type 0
LosesOne gone all left = (key : Tuple) → is_among left key ≡ cond (is_same gone key) false (is_among all key)

-- the keys of rows, of which no two are the same, stand in this order
pub record AreKeys (keys order : List Tuple) : Type 0 where
  pub all : (key : Tuple) → is_among order key ≡ is_among keys key
  pub apart : first_repeated [] keys ≡ None

-- the keys of rows by these columns; they are not kept where there is no column
abbrev pub AreKept : List ℕ → List Tuple → List Tuple → Type 0
AreKept columns rows order = columns ≢ [] → AreKeys (keys_by columns rows) order

-- rows whose keys are judged
abbrev pub judged : Schema → List Tuple → Result (List Tuple) Refused
judged schema rows = unless_refused (key_fault schema rows) (Ok rows)
