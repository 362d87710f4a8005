-- The rows that went and came, by their partitions.
use Rattle.std.specs.Prelude.{◌≡◌, ℕ, Bool, true, false, not, ◌||◌, List, ◌++◌, map, take}
use Rattle.std.specs.List.{filter, list_any}
use Rattle.std.specs.List.Sorted.{IsStrictlySortedBy}
use Rattle.std.specs.Ordering.{is_lt, on}
use Rattle.std.specs.declared.cmp.Ordering.{Ordering}
use Rattle.mq_values.specs.Order.{cmp_key}
use Rattle.mq_ir.specs.EachLaws.{Each}
use Rattle.mq_ir.specs.Keys.{Tuple, is_among}
use Rattle.mq_shape.specs.Runs.{has_parts}
use Rattle.mq_delta_parts.specs.declared.groups.PartChange.{PartChange}

-- the keys of groups
abbrev pub keys_in : List PartChange → List Tuple
keys_in groups = map (λ group. group.key) groups

-- the rows of a partition that went and came
abbrev pub group_of : ℕ → List Tuple → List Tuple → Tuple → PartChange
group_of parts gone come key = record { key = key; gone = filter (has_parts parts key) gone; come = filter (has_parts parts key) come }

-- whether a row of a partition went or came
abbrev pub is_touched : ℕ → List Tuple → List Tuple → Tuple → Bool
is_touched parts gone come key = list_any (has_parts parts key) gone || list_any (has_parts parts key) come

-- a group for each partition of which a row went or came, ascending by their keys
pub record AreGroups (parts : ℕ) (gone come : List Tuple) (groups : List PartChange) : Type 0 where
  pub ascend : IsStrictlySortedBy cmp_key (keys_in groups)
  pub touched : (key : Tuple) → is_among (keys_in groups) key ≡ is_touched parts gone come key
  pub rows : groups ≡ map (group_of parts gone come) (keys_in groups)

-- ---- how they are made
-- a row, and whether it came
abbrev pub Change : Type 0
Change = Tuple × Bool

abbrev pub with_mark : Bool → Tuple → Change
with_mark came row = (row, came)

-- rows that went and rows that came as one list
abbrev pub changes_of : List Tuple → List Tuple → List Change
changes_of gone come = map (with_mark false) gone ++ map (with_mark true) come

-- by the partition keys of the rows
abbrev pub by_key : ℕ → Change → Change → Ordering
by_key parts = on (λ change. take parts change.0) cmp_key

-- whether the row is of this partition
abbrev pub has_key : ℕ → Tuple → Change → Bool
has_key parts key change = has_parts parts key change.0

-- no row has a lesser partition key
abbrev pub NoneLess : ℕ → Tuple → List Change → Type 0
NoneLess parts key changes = Each (λ change. is_lt (cmp_key (take parts change.0) key) ≡ false) changes

-- whether a mark is this one
abbrev pub is_mark : Bool → Bool → Bool
is_mark true mark = mark
is_mark false mark = not mark

-- the rows that came, or those that went
abbrev pub rows_marked : Bool → List Change → List Tuple
rows_marked came changes = map (λ change. change.0) (filter (λ change. is_mark came change.1) changes)

-- the group of a partition, of which these are the changes
abbrev pub group_from : Tuple → List Change → PartChange
group_from key changes = record { key = key; gone = rows_marked false changes; come = rows_marked true changes }

-- the groups of the partitions of changes that ascend by their partition keys, for the changes that are not in `rest`
pub record Grouped (parts : ℕ) (all rest : List Change) (groups : List PartChange) : Type 0 where
  pub ascend : IsStrictlySortedBy cmp_key (keys_in groups)
  pub touched : (key : Tuple) → (is_among (keys_in groups) key || list_any (has_key parts key) rest) ≡ list_any (has_key parts key) all
  pub rows : groups ≡ map (λ key. group_from key (filter (has_key parts key) all)) (keys_in groups)
