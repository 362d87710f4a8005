use Rattle.std.proofs.Common.{◌≡◌}
use Rattle.std.specs.Map.{keys_of}
use Rattle.mq_seq.specs.Steps.{act_in, target_done}
use Rattle.mq_ir.specs.StepLaws.{Turned}
use Rattle.mq_seq.proofs.assigning.assign_all.Given as goal

abbrev pub invariant-targets : goal.invariant-targets
invariant-targets l = record {
  turned : Turned (target_done (act_in l.act)) l.fn.grid l.targets l.target-index l.grid;
  same_width : l.grid.width ≡ l.fn.grid.width;
  same_keys : keys_of l.grid.track.cells ≡ keys_of l.fn.grid.track.cells;
}
