-- What partitions, groups and conversions come to.
use Rattle.std.specs.Prelude.{◌≡◌, ℕ, ◌==◌, ◌<◌, List, length, take, Ok}
use Rattle.std.specs.List.{AllByRecursion, filter, list_any}
use Rattle.std.specs.List.Sorted.{IsStrictlySortedBy}
use Rattle.mq_values.specs.Convert.{cast_of}
use Rattle.mq_values.specs.Order.{cmp_key}
use Rattle.mq_values.specs.declared.value.Kind.{Kind}
use Rattle.mq_values.specs.declared.value.Value.{Value}
use Rattle.mq_ir.specs.declared.query.ColRef.{ColRef}
use Rattle.mq_ir.specs.Items.{BaseRow, groups_of}
use Rattle.mq_ir.specs.Keys.{Tuple, is_same}
use Rattle.mq_ir.specs.Partitions.{cell_at, cells_of, partition_keys}

-- how often a key stands among these
abbrev pub times : Tuple → List Tuple → ℕ
times key keys = length (filter (is_same key) keys)

-- every item row is in exactly one partition
abbrev pub RowsHaveOnePartition : ℕ → List Tuple → Type 0
RowsHaveOnePartition parts items = AllByRecursion (λ row. times (take parts row) (partition_keys parts items) ≡ 1) items

-- the keys of the partitions ascend, each once
abbrev pub PartitionsAscend : ℕ → List Tuple → Type 0
PartitionsAscend parts items = IsStrictlySortedBy cmp_key (partition_keys parts items)

-- how many groups hold the row of this number
abbrev pub groups_with : ℕ → List (List ℕ) → ℕ
groups_with n groups = length (filter (list_any (λ k. k == n)) groups)

-- every base row is in exactly one group
abbrev pub RowsHaveOneGroup : List ColRef → List BaseRow → Type 0
RowsHaveOneGroup cols rows = (n : ℕ) → n < length rows → groups_with n (groups_of cols rows) ≡ 1

-- a value that is converted twice is as converted once
abbrev pub ConvertsOnce : Value → Kind → Type 0
ConvertsOnce v kind = (w : Value) → cast_of v kind ≡ Ok w → cast_of w kind ≡ Ok w

-- where a tuple stands in several rows, a look-up in the cells finds the measures of the first of them
abbrev pub FirstRowCounts : List (Tuple × Tuple) → Tuple → Type 0
FirstRowCounts rows key = cell_at (cells_of rows) key ≡ cell_at rows key
