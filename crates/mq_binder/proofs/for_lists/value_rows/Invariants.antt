use Rattle.mq_binder.specs.ForWalk.{value_row}
use Rattle.mq_bind_expr.specs.StepLemmas.{Walked}
use Rattle.mq_binder.proofs.for_lists.value_rows.Given as goal

abbrev pub invariant-rows : goal.invariant-rows
invariant-rows l = Walked (value_row l.scope) l.rows l.row-index l.found
