-- The members of a group, and the items of a row or a group with where a fault of theirs stands.
use Rattle.std.specs.Prelude.{ℕ, List, [], Option, Result, map, slice_index_or}
use Rattle.std.specs.Option.{option_map_or}
use Rattle.mq_values.specs.Aggregate.{aggregate}
use Rattle.mq_values.specs.declared.faults.QueryFault.{QueryFault}
use Rattle.mq_values.specs.declared.operators.Agg.{Agg}
use Rattle.mq_ir.specs.declared.expression.Expr.{Expr}
use Rattle.mq_ir.specs.declared.expression.Leaf.{Leaf}
use Rattle.mq_ir.specs.declared.query.ColRef.{ColRef}
use Rattle.mq_ir.specs.Answer.{plain_fault}
use Rattle.mq_ir.specs.Expression.{Outcome, ev}
use Rattle.mq_ir.specs.Items.{BaseRow, group_leaves, items_at, members_of, row_leaves}
use Rattle.mq_ir.specs.Keys.{Tuple}
use Rattle.mq_ir.specs.Results.{◌>>=◌, each, marked}

-- the row, or the empty one where there is none
abbrev pub row_or_none : {R : Type 0} → (R → BaseRow) → Option R → BaseRow
row_or_none values row = option_map_or values row []

-- what an expression is worth over the member that is the row of this number
abbrev pub member_found : {R : Type 0} → (R → BaseRow) → List R → Expr → ℕ → Outcome
member_found values rows e n = ev (row_leaves (slice_index_or (map values rows) n [])) e

-- an aggregate of what an expression is worth over the members of a group
abbrev pub aggregate_found : {R : Type 0} → (R → BaseRow) → List R → Agg → Expr → List ℕ → Outcome
aggregate_found values rows agg e group = each (member_found values rows e) group >>= aggregate agg

-- items over these leaves; a fault of theirs is one outside of partitions
abbrev pub items_found : List Expr → (Leaf → Outcome) → Result Tuple QueryFault
items_found items leaves = marked (plain_fault 0) (items_at items leaves)

-- the items over a row, and over a group
abbrev pub row_found : {R : Type 0} → (R → BaseRow) → List Expr → R → Result Tuple QueryFault
row_found values items row = items_found items (row_leaves (values row))

abbrev pub group_found : {R : Type 0} → (R → BaseRow) → List ColRef → List R → List Expr → List ℕ → Result Tuple QueryFault
group_found values cols rows items group = items_found items (group_leaves cols (members_of (map values rows) group))
