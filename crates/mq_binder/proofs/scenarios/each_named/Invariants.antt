use Rattle.mq_binder.specs.ScenarioWalk.{scenario_named}
use Rattle.mq_bind_expr.specs.StepLemmas.{Walked}
use Rattle.mq_binder.proofs.scenarios.each_named.Given as goal

abbrev pub invariant-names : goal.invariant-names
invariant-names l = Walked (scenario_named l.catalog) l.names l.name-index l.scenarios
