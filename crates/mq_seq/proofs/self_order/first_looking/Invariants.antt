use Rattle.std.specs.Map.{keys_of}
use Rattle.mq_seq.specs.Steps.{act_in, looks_past}
use Rattle.mq_seq.proofs.StepLemmas.{Sought}
use Rattle.mq_seq.proofs.self_order.first_looking.Given as goal

abbrev pub invariant-targets : goal.invariant-targets
invariant-targets l = Sought (looks_past (act_in l.act l.grid.input) (keys_of l.grid.track.cells) l.targets) l.targets l.target-index
