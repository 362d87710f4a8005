use Rattle.std.proofs.Common.{◌<◌, List, length, get_or, ap, ◌∙◌, arith}
use Rattle.mq_ir.specs.declared.catalog.Scenario.{Scenario}
use Rattle.mq_engine.proofs.ScenarioLemmas.{is_new}
use Rattle.mq_engine.proofs.scenarios.with_change.Goals as goal

pub put-requires : goal.put-requires
put-requires c =
    let scenarios = c.args.scenarios.now in
    let items = c.as_slice-scenario-items.ensures in
    let i = c.loop-scenario.scenario-index in
    let x = c.scenario-item.result in
    let there : i < length scenarios = omega (arith, ap length items, c.loop-scenario-test.true) in
    is_new c.args.name.now c.args.c.now scenarios c.loop-scenario.after i x c.in_ok-longer.field-0 c.requires there
    (c.scenario-item.is ∙ ap (λ (ss : List Scenario). get_or ss i x) items) c.loop-scenario.invariant c.in_ok-longer.ensures
