use Rattle.std.proofs.Common.{◌≡◌, take}
use Rattle.std.specs.Map.{keys_of}
use Rattle.mq_cells.proofs.GatherLemmas.{measures_of}
use Rattle.mq_cells.proofs.gather.in_order.Given as goal

abbrev pub invariant-loop-key : goal.invariant-loop-key
invariant-loop-key l = record {
  keys : l.keys.items ≡ keys_of (take l.key-index l.input);
  measures : l.measures.items ≡ measures_of (take l.key-index l.input);
}
