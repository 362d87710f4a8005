use Rattle.std.proofs.Common.{◌≡◌, ◌++◌, map}
use Rattle.std.specs.Map.{keys_of}
use Rattle.mq_lineage.specs.Closing.{name_of}
use Rattle.mq_lineage.proofs.node_map.keys_in.Given as goal

abbrev pub invariant-loop-node : goal.invariant-loop-node
invariant-loop-node l = l.names ++ map name_of (keys_of l.node-iterator) ≡ map name_of (keys_of l.numbers.entries)
