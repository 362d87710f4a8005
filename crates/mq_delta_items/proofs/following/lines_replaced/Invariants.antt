use Rattle.mq_ir.specs.StepLaws.{Turned}
use Rattle.mq_delta_items.specs.Following.{made_anew, no_change}
use Rattle.mq_delta_items.specs.Lines.{line_of}
use Rattle.mq_delta_items.proofs.following.lines_replaced.Given as goal

abbrev pub invariant-replaced : goal.invariant-replaced
invariant-replaced l = Turned (made_anew (line_of l.from l.part) l.rows) (l.fn.lines, no_change) l.replaced l.row-index (l.lines, l.change)
