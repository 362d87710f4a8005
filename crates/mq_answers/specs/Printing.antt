-- The order in which rows are printed.
use Rattle.std.specs.Prelude.{ℕ, List, ◌++◌, map, Bool, false}
use Rattle.std.specs.Ordering.{on}
use Rattle.std.specs.declared.cmp.Ordering.{Ordering}
use Rattle.mq_ir.specs.declared.query.BoundQuery.{BoundQuery}
use Rattle.mq_ir.specs.Partitions.{Tuple}
use Rattle.mq_ir.specs.Printing.{cmp_printed}

-- columns with whether they descend, and behind them columns that ascend
abbrev pub with_ascending : List (ℕ × Bool) → List ℕ → List (ℕ × Bool)
with_ascending order print = order ++ map (λ n. (n, false)) print

-- rows that are seen by their columns
abbrev pub cmp_rows : {R : Type 0} → (R → Tuple) → BoundQuery → R → R → Ordering
cmp_rows columns q = on columns (cmp_printed q)
