use Rattle.mq_binder.specs.RuleWalk.{left_key}
use Rattle.mq_bind_expr.specs.StepLemmas.{Walked}
use Rattle.mq_binder.proofs.rules.left_keys.Given as goal

abbrev pub invariant-keys : goal.invariant-keys
invariant-keys l = Walked (left_key l.scope) l.keys l.key-index l.order
