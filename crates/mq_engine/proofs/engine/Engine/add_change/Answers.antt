use Rattle.std.proofs.Common.{◌<◌, length, sym, subst}
use Rattle.mq_values.specs.declared.limits.TheConstants.{MAX_SCENARIO_CHANGES}
use Rattle.mq_ir.specs.Scenarios.{changes_at}
use Rattle.mq_ir.specs.Statement.{State}
use Rattle.mq_engine.proofs.ScenarioLemmas.{longer_stand}
use Rattle.mq_engine.proofs.engine.Engine.add_change.Goals as goal

pub count_with_one_more-count-requires : goal.count_with_one_more-count-requires
count_with_one_more-count-requires c = subst (λ (s : State). length (changes_at s c.args.name.now) < MAX_SCENARIO_CHANGES) (sym c.self.view_is) c.requires

pub invariant_of-self : goal.invariant_of-self
invariant_of-self c = (
  c.self.invariant.0,
  c.self.invariant.1,
  longer_stand c.args.name.now c.args.c c.self.inside.catalog.scenarios c.in_ok-scenarios.scenarios c.in_ok-scenarios.ensures c.self.invariant.2
      (subst (λ (s : State). length (changes_at s c.args.name.now) < MAX_SCENARIO_CHANGES) (sym c.self.view_is) c.requires),
  c.self.invariant.3,
)
