use Rattle.mq_binder.specs.FromWalk.{grouping}
use Rattle.mq_bind_expr.specs.StepLemmas.{Walked}
use Rattle.mq_binder.proofs.sources.groupings.Given as goal

abbrev pub invariant-paths : goal.invariant-paths
invariant-paths l = Walked (grouping l.scope) l.paths l.path-index l.cols
