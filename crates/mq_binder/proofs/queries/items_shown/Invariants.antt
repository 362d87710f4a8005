use Rattle.mq_binder.specs.QueryWalk.{shown_item}
use Rattle.mq_bind_expr.specs.StepLemmas.{Walked}
use Rattle.mq_binder.proofs.queries.items_shown.Given as goal

abbrev pub invariant-sels : goal.invariant-sels
invariant-sels l = Walked (shown_item l.scope) l.sels l.sel-index l.numbers
