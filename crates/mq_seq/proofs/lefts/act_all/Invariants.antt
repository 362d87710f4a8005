use Rattle.std.proofs.Common.{◌≡◌}
use Rattle.mq_seq.specs.Steps.{act_in, left_done}
use Rattle.mq_ir.specs.StepLaws.{Turned}
use Rattle.mq_seq.proofs.lefts.act_all.Given as goal

abbrev pub invariant-lefts : goal.invariant-lefts
invariant-lefts l = record {
  turned : Turned (left_done (act_in l.act)) l.fn.grid l.lefts l.left-index l.grid;
  same_width : l.grid.width ≡ l.fn.grid.width;
}
