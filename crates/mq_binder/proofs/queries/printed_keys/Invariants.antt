use Rattle.mq_binder.specs.QueryWalk.{printed_key}
use Rattle.mq_bind_expr.specs.StepLemmas.{Walked}
use Rattle.mq_binder.proofs.queries.printed_keys.Given as goal

abbrev pub invariant-keys : goal.invariant-keys
invariant-keys l = Walked (printed_key l.printed) l.keys l.key-index l.order
