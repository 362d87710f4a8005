-- The groups of base rows, and the items of a query for each row or group.
use Rattle.std.specs.Prelude.{ℕ, ◌==◌, ◌&&◌, Bool, List, [], ◌∷◌, map, length, Option, Some, None, Result, Ok, slice_index_or, if◌then◌else◌}
use Rattle.std.specs.List.{enumerate_from, filter, list_any, range_with_len}
use Rattle.mq_values.specs.Aggregate.{aggregate, count}
use Rattle.mq_values.specs.declared.faults.FaultKind.{FaultKind}
use Rattle.mq_values.specs.declared.operators.Agg.{Agg}
use Rattle.mq_values.specs.declared.value.Value.TheVariants.{Null}
use Rattle.mq_ir.specs.declared.expression.Expr.{Expr}
use Rattle.mq_ir.specs.declared.expression.Expr.TheOpen as layer
use Rattle.mq_ir.specs.declared.expression.Leaf.{Leaf, out-Leaf}
use Rattle.mq_ir.specs.declared.query.ColRef.{ColRef}
use Rattle.mq_ir.specs.declared.query.FromPart.{FromPart}
use Rattle.mq_ir.specs.declared.query.ItemPart.{ItemPart}
use Rattle.mq_ir.specs.BaseRows.{base_rows, column_at}
pub use Rattle.mq_ir.specs.BaseRows.{row_leaves}
use Rattle.mq_ir.specs.Expression.{Outcome, ev}
use Rattle.mq_ir.specs.Keys.{each_first, is_same}
use Rattle.mq_ir.specs.Partitions.{Tuple}
use Rattle.mq_ir.specs.Placed.{kind_of}
use Rattle.mq_ir.specs.Results.{◌>>=◌, each, marked}
use Rattle.mq_ir.specs.Tables.{Tables}
use Rattle.mq_ir.specs.Worth.{a_number}

-- a base row: a row for each FROM item
abbrev pub BaseRow : Type 0
BaseRow = List Tuple

-- the values of the columns that GROUP BY names
abbrev pub group_key : List ColRef → BaseRow → Tuple
group_key cols row = map (λ (c : ColRef). slice_index_or (slice_index_or row c.item []) c.column Null) cols

-- the numbers of the rows whose key is k, in order
abbrev pub rows_with : (BaseRow → Tuple) → List BaseRow → Tuple → List ℕ
rows_with key rows k = map (λ row. row.0) (filter (λ row. is_same k (key row.1)) (enumerate_from 0 rows))

-- The groups, each as the numbers of its rows: one for each distinct key, in order of its first row. Keys are the same where all their values are, so null is one key.
-- Without columns there is exactly one group, also over no rows.
abbrev pub groups_of : List ColRef → List BaseRow → List (List ℕ)
groups_of [] rows = range_with_len 0 (length rows) ∷ []
groups_of (c ∷ cs) rows = let key = group_key (c ∷ cs) in map (rows_with key rows) (each_first (map key rows))

abbrev pub members_of : List BaseRow → List ℕ → List BaseRow
members_of rows group = map (λ n. slice_index_or rows n []) group

-- An aggregate over the members of a group: its argument is evaluated for all of them, in order, and only then are the values put together.
abbrev pub group_value : List BaseRow → Agg → Option Expr → Outcome
group_value members agg None = a_number (count members)
group_value members agg (Some e) = each (λ row. ev (row_leaves row) e) members >>= aggregate agg

abbrev pub is_grouped : List ColRef → ℕ → ℕ → Bool
is_grouped cols item column = list_any (λ (c : ColRef). (c.item == item) && (c.column == column)) cols

-- The leaves of an item over a group: its aggregates, and the columns that GROUP BY names, which are the same in all its rows. Any other column is null.
abbrev pub group_leaves : List ColRef → List BaseRow → Leaf → Outcome
group_leaves cols members l = elim (out-Leaf l) [
  | layer.Column item column ↦ if is_grouped cols item column then column_at (slice_index_or members 0 []) item column else Ok Null
  | layer.GroupAgg agg e ↦ group_value members agg e
  | _ ↦ Ok Null
]

-- the items over these leaves, from left to right
abbrev pub items_at : List Expr → (Leaf → Outcome) → Result Tuple FaultKind
items_at items leaves = marked kind_of (each (ev leaves) items)

-- what the items of a query are evaluated over: its base rows, or its groups
abbrev pub stands_of : Option (List ColRef) → List BaseRow → List (Leaf → Outcome)
stands_of None rows = map row_leaves rows
stands_of (Some cols) rows = map (λ group. group_leaves cols (members_of rows group)) (groups_of cols rows)

-- the items for each row or group, in order
abbrev pub item_rows : ItemPart → List BaseRow → Result (List Tuple) FaultKind
item_rows part rows = each (items_at part.items) (stands_of part.group rows)

-- the same over tables, or the first fault: all filters come before all items
abbrev pub items_over : Tables → FromPart → ItemPart → Result (List Tuple) FaultKind
items_over tables from items = base_rows tables from >>= item_rows items
