use Rattle.std.proofs.Common.{◌≡◌, ◌++◌, drop}
use Rattle.std.specs.Map as spec
use Rattle.mq_auto.proofs.input_keys.keys_of.Given as goal

abbrev pub invariant-loop-cell : goal.invariant-loop-cell
invariant-loop-cell l = l.keys.items ++ spec.keys_of (drop l.cell-index l.cells) ≡ spec.keys_of l.cells
