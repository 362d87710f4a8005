-- The index of a column of a FROM item: the rows with equal values, one after another.
use Rattle.std.specs.Prelude.{◌≡◌, ℕ, ◌+◌, ◌<◌, ◌≤◌, Bool, true, false, ◌||◌, IsTrue, List, [], length, Option, Some, None, slice_index_or, if◌then◌else◌}
use Rattle.std.specs.BTreeMap.{BTreeMap, get}
use Rattle.mq_values.specs.declared.value.Value.{Value}
use Rattle.mq_values.specs.declared.value.Value.TheVariants as value
use Rattle.mq_ir.specs.Keys.{Tuple}
use Rattle.mq_join.specs.JoinKeys.{cmp_joined, is_date, is_number, is_same_key, is_text}
use Rattle.mq_join.specs.declared.indexes.Index.{Index}

-- the value of a column in the row of this place
abbrev pub key_at : List Tuple → ℕ → ℕ → Value
key_at rows column place = slice_index_or (slice_index_or rows place []) column value.Null

-- whether the row of this place has that value
abbrev pub matches : List Tuple → ℕ → Value → ℕ → Bool
matches rows column v place = is_same_key v (key_at rows column place)

-- each of the rows has a value of this sort
abbrev pub AllKeys : (Value → Bool) → List Tuple → ℕ → Type 0
AllKeys test rows column = (k : ℕ) → k < length rows → test (key_at rows column k) ≡ true

-- q holds of no place from i to below n
abbrev pub NoneIn : (ℕ → Bool) → ℕ → ℕ → Type 0
NoneIn q i n = (k : ℕ) → i ≤ k → k < n → q k ≡ false

-- the first place from i to below n of which q holds, if there is one
abbrev pub IsFirst : (ℕ → Bool) → ℕ → ℕ → Option ℕ → Type 0
IsFirst q i n None = NoneIn q i n
IsFirst q i n (Some p) = (i ≤ p) × (p < n) × (q p ≡ true) × NoneIn q i p

-- the rows from the place i on: for each value its first row, and for each row the next with its value
pub record IsChained (rows : List Tuple) (column i : ℕ) (firsts : BTreeMap Value ℕ) (behind : List (Option ℕ)) : Type 0 where
  pub long : length behind ≡ length rows
  pub heads : (v : Value) → IsFirst (matches rows column v) i (length rows) (get cmp_joined firsts v)
  pub next : (p : ℕ) → i ≤ p → p < length rows → IsFirst (matches rows column (key_at rows column p)) (p + 1) (length rows) (slice_index_or behind p None)

-- whether each value of the column is of the sort of this one
abbrev pub is_known : Index → Value → Bool
is_known x v = if is_number v then x.numbers else (if is_text v then x.texts else (if is_date v then x.dates else false))

-- whether the walk is idle at each row that has not this value: where the equality decides also if it is unknown, or where it never is
abbrev pub may_pass : Index → Value → Bool
may_pass x v = x.lookup.safe || is_known x v

pub record IsIndexed (rows : List Tuple) (x : Index) : Type 0 where
  pub numbers : IsTrue x.numbers → AllKeys is_number rows x.lookup.own
  pub texts : IsTrue x.texts → AllKeys is_text rows x.lookup.own
  pub dates : IsTrue x.dates → AllKeys is_date rows x.lookup.own
  pub chained : IsChained rows x.lookup.own 0 x.heads x.next.items
