-- The rules of assignments, found one after another.
use Rattle.std.specs.Prelude.{◌≡◌, List}
use Rattle.std.specs.List.{find}
use Rattle.std.specs.Option.{option_map}
use Rattle.mq_ir.specs.declared.query.CellName.{CellName}
use Rattle.mq_ir.specs.Shape.{Assignment, assigns}
use Rattle.mq_lineage.specs.Nodes.{Nodes, number_in}

-- a map has the rules of these assignments, of each measure that of the first
abbrev pub HasRulesIn : List Assignment → Nodes → Type 0
HasRulesIn assigned nodes = (c : CellName) → number_in nodes c ≡ option_map (λ a. a.2) (find (assigns c.measure c.key) assigned)
