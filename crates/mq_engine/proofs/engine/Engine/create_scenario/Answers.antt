use Rattle.std.proofs.Common.{ap, ◌∙◌}
use Rattle.mq_ir.specs.NamedItems.{has_name}
use Rattle.mq_ir.specs.Names.{is_scenario}
use Rattle.mq_ir.specs.declared.catalog.Scenario.{Scenario}
use Rattle.mq_ir.specs.Statement.{State}
use Rattle.mq_engine.specs.Catalogs.{catalog_of}
use Rattle.mq_engine.proofs.ScenarioLemmas.{put_or_not}
use Rattle.mq_engine.proofs.engine.Engine.create_scenario.Goals as goal

pub invariant_of-self : goal.invariant_of-self
invariant_of-self c =
    let scenarios = c.self.inside.catalog.scenarios in
    let s : Scenario = record { name = c.in_ok-name.name; changes = c.new-changes.result } in
    let new =
    ap (has_name (λ (s : Scenario). s.name) scenarios) c.in_ok-name.ensures
    ∙ ap (λ (state : State). is_scenario (catalog_of state) c.args.name.now) c.self.view_is
    ∙ c.requires in (
      c.self.invariant.0,
      c.self.invariant.1,
      put_or_not c.put.result scenarios c.put.new.self s c.put.ensures.ok c.put.ensures.err c.self.invariant.2 new c.new-changes.ensures,
      c.self.invariant.3,
    )
