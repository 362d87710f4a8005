-- The partitions of a query's item rows, and the cells with which each begins.
use Rattle.std.specs.Prelude.{ℕ, ◌==◌, Bool, List, [], ◌∷◌, Option, Some, None, take, drop, map, length, nat_le, if◌then◌else◌}
use Rattle.std.specs.List.{filter}
use Rattle.std.specs.Map.{lookup}
use Rattle.std.specs.Ordering.{is_gt, on}
use Rattle.std.specs.declared.cmp.Ordering.{Ordering}
use Rattle.std.specs.BTreeMap.{insert_entry, is_at}
use Rattle.mq_values.specs.Order.{cmp_key}
use Rattle.mq_ir.specs.declared.query.ModelPart.{ModelPart}
use Rattle.mq_ir.specs.declared.query.PartInput.{PartInput}
use Rattle.mq_ir.specs.Keys.{each_first, is_same}
pub use Rattle.mq_ir.specs.Keys.{Tuple}

-- cells, ascending by their dimension tuples, each with its measures
abbrev pub Cells : Type 0
Cells = List (Tuple × Tuple)

-- the measures of the first cell at this tuple, where there is one
abbrev pub cell_at : Cells → Tuple → Option Tuple
cell_at cells key = lookup (is_at (cmp_key key)) cells

-- the cells, with these measures at this tuple
abbrev pub with_cell : Cells → Tuple → Tuple → Cells
with_cell cells key measures = insert_entry cmp_key cells key measures

-- an item put before the first that is not less
abbrev pub placed : {K : Type 0} → (K → K → Ordering) → K → List K → List K
placed cmp x [] = x ∷ []
placed cmp x (y ∷ ys) = if is_gt (cmp x y) then y ∷ placed cmp x ys else x ∷ y ∷ ys

-- these items, ascending; items that are equal stay in their order
abbrev pub ascending : {K : Type 0} → (K → K → Ordering) → List K → List K
ascending cmp [] = []
ascending cmp (x ∷ xs) = placed cmp x (ascending cmp xs)

-- an item row, cut behind its n dimensions into a dimension tuple and measures
abbrev pub cut : ℕ → Tuple → Tuple × Tuple
cut n row = (take n row, drop n row)

-- the cells of these rows, ascending; equal tuples stand in the order of the rows
abbrev pub cells_of : List (Tuple × Tuple) → Cells
cells_of rows = ascending (on (λ row. row.0) cmp_key) rows

-- whether a tuple stands twice among these
abbrev pub stands_twice : List Tuple → Tuple → Bool
stands_twice keys key = nat_le 2 (length (filter (is_same key) keys))

abbrev pub first_of : List Tuple → Option Tuple
first_of [] = None
first_of (key ∷ keys) = Some key

-- the least tuple that stands twice
abbrev pub repeated : List Tuple → Option Tuple
repeated keys = first_of (ascending cmp_key (filter (stands_twice keys) keys))

-- the distinct partition keys, ascending; without PARTITION BY the one empty key, also over no rows
abbrev pub partition_keys : ℕ → List Tuple → List Tuple
partition_keys parts items = if parts == 0 then [] ∷ [] else ascending cmp_key (each_first (map (take parts) items))

-- the dimension tuples and measures of the item rows of a partition
abbrev pub rows_in : ModelPart → List Tuple → Tuple → List (Tuple × Tuple)
rows_in part items key = map (λ row. cut (length part.dims) (drop part.parts row)) (filter (λ row. is_same key (take part.parts row)) items)

-- the input of a partition
abbrev pub input_of : ModelPart → List Tuple → Tuple → PartInput
input_of part items key =
    let rows = rows_in part items key in
    record { key = key; cells = cells_of rows; repeated = repeated (map (λ row. row.0) rows) }

-- the partitions, ascending by their keys
abbrev pub partitions : ModelPart → List Tuple → List PartInput
partitions part items = map (input_of part items) (partition_keys part.parts items)
