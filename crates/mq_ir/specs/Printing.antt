-- The order in which rows are printed, and their printed columns.
use Rattle.std.specs.Prelude.{ℕ, List, [], ◌∷◌, ◌++◌, map, Bool, false, if◌then◌else◌, slice_index_or}
use Rattle.std.specs.Ordering.{ordering_then}
use Rattle.std.specs.declared.cmp.Ordering.{Ordering}
use Rattle.std.specs.declared.cmp.Ordering.TheVariants.{Equal}
use Rattle.mq_values.specs.Order.{cmp_value}
use Rattle.mq_values.specs.declared.value.Value.{Value}
use Rattle.mq_values.specs.declared.value.Value.TheVariants.{Null}
use Rattle.mq_ir.specs.declared.query.BoundQuery.{BoundQuery}
use Rattle.mq_ir.specs.Partitions.{Tuple, ascending}

-- the columns of these numbers
abbrev pub columns_at : List ℕ → Tuple → Tuple
columns_at numbers row = map (λ n. slice_index_or row n Null) numbers

-- one column of two rows, with DESC the other way round
abbrev pub cmp_column : ℕ × Bool → Tuple → Tuple → Ordering
cmp_column (n, descending) a b =
    let at : Tuple → Value = λ row. slice_index_or row n Null in
    if descending then cmp_value (at b) (at a) else cmp_value (at a) (at b)

-- the first column in which two rows differ decides
abbrev pub cmp_columns : List (ℕ × Bool) → Tuple → Tuple → Ordering
cmp_columns [] a b = Equal
cmp_columns (c ∷ cs) a b = ordering_then (cmp_column c a b) (cmp_columns cs a b)

-- ORDER BY, and then all printed columns from the left, ascending
abbrev pub cmp_printed : BoundQuery → Tuple → Tuple → Ordering
cmp_printed q = cmp_columns (q.order ++ map (λ n. (n, false)) q.print)

-- the rows as they are printed
abbrev pub printed_rows : BoundQuery → List Tuple → List Tuple
printed_rows q rows = map (columns_at q.print) (ascending (cmp_printed q) rows)
