use Rattle.mq_delta_items.specs.Lines.{line_of}
use Rattle.mq_delta_items.proofs.LineLemmas.{LinedUp}
use Rattle.mq_delta_items.proofs.lines.lines_over.Given as goal

abbrev pub invariant-rows : goal.invariant-rows
invariant-rows l = LinedUp (line_of l.from l.part) l.rows l.row-index l.lines
