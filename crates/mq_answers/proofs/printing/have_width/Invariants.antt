use Rattle.std.proofs.Common.{take}
use Rattle.mq_ir.specs.Ready.{HaveLength}
use Rattle.mq_answers.proofs.printing.have_width.Given as goal

abbrev pub invariant-loop-row : goal.invariant-loop-row
invariant-loop-row l = HaveLength l.width (take l.row-index l.rows)
