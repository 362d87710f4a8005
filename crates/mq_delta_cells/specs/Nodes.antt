-- Measures of cells with numbers, as a map has them.
use Rattle.std.specs.Prelude.{◌≡◌, ℕ, List, Option, Some, if◌then◌else◌}
use Rattle.std.specs.BTreeMap.{is_at}
use Rattle.std.specs.Map.{lookup}
use Rattle.std.specs.Ordering.{nat_cmp, ordering_then}
use Rattle.std.specs.declared.cmp.Ordering.{Ordering}
use Rattle.mq_values.specs.Order.{cmp_key}
use Rattle.mq_ir.specs.declared.query.CellName.{CellName}
use Rattle.mq_ir.specs.Keys.{Tuple}
use Rattle.mq_cells.specs.Stores.{is_named}

-- a measure of a cell, and the order of such
abbrev pub Node : Type 0
Node = Tuple × ℕ

abbrev pub cmp_node : Node → Node → Ordering
cmp_node x y = ordering_then (cmp_key x.0 y.0) (nat_cmp x.1 y.1)

-- measures, each with a number
abbrev pub Nodes : Type 0
Nodes = List (Node × ℕ)

-- the number of a measure, where it has one
abbrev pub number_in : Nodes → CellName → Option ℕ
number_in nodes c = lookup (is_at (cmp_node (c.key, c.measure))) nodes

-- the measures after differ from those before in this one alone, which has the number now
abbrev pub Numbers : Nodes → Nodes → CellName → ℕ → Type 0
Numbers before after name number = (c : CellName) → number_in after c ≡ (if is_named name c then Some number else number_in before c)
