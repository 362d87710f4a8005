use Rattle.std.proofs.Common.{not}
use Rattle.mq_ir.specs.declared.catalog.Scenario.{Scenario}
use Rattle.mq_ir.specs.Tables.{is_name}
use Rattle.mq_engine.proofs.ScenarioLemmas.{kept_stand}
use Rattle.mq_engine.proofs.engine.Engine.drop_scenario.Goals as goal

pub invariant_of-self : goal.invariant_of-self
invariant_of-self c = (
  c.self.invariant.0,
  c.self.invariant.1,
  kept_stand (λ (s : Scenario). not (is_name c.args.name.now s.name)) c.self.inside.catalog.scenarios c.remove.new.self c.remove.ensures c.self.invariant.2,
  c.self.invariant.3,
)
