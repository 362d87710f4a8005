use Rattle.mq_binder.specs.QueryWalk.{model_key}
use Rattle.mq_bind_expr.specs.StepLemmas.{Walked}
use Rattle.mq_binder.proofs.queries.model_keys.Given as goal

abbrev pub invariant-keys : goal.invariant-keys
invariant-keys l = Walked (model_key l.columns) l.keys l.key-index l.order
