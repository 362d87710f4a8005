use Rattle.std.proofs.Common.{[]}
use Rattle.mq_binder.specs.RuleWalk.{rule_bound}
use Rattle.mq_binder.proofs.CarrySteps.{Carried}
use Rattle.mq_binder.proofs.rules.rules_bound.Given as goal

abbrev pub invariant-rules : goal.invariant-rules
invariant-rules l = Carried (rule_bound l.catalog l.scope l.mode l.auto') [] l.rules l.r-index l.bound_rules l.gathered
