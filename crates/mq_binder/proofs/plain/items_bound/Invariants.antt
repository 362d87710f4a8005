use Rattle.mq_binder.specs.PlainWalk.{item_bound}
use Rattle.mq_bind_expr.specs.StepLemmas.{Walked}
use Rattle.mq_binder.proofs.plain.items_bound.Given as goal

abbrev pub invariant-sels : goal.invariant-sels
invariant-sels l = Walked (item_bound l.scope) l.sels l.sel-index l.items
