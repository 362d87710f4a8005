use Rattle.mq_binder.specs.ChangeWalk.{row_bound}
use Rattle.mq_bind_expr.specs.StepLemmas.{Walked}
use Rattle.mq_binder.proofs.changes.rows_at.Given as goal

abbrev pub invariant-rows : goal.invariant-rows
invariant-rows l = Walked (row_bound l.schema l.numbers) l.rows l.row-index l.made
