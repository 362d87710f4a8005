use Rattle.std.proofs.Common.{◌≤◌, List, length, sym, subst}
use Rattle.mq_values.specs.declared.limits.TheConstants.{MAX_SCENARIO_CHANGES}
use Rattle.mq_ir.specs.declared.statement.Change.{Change}
use Rattle.mq_engine.proofs.ScenarioLemmas.{under_bounded}
use Rattle.mq_engine.proofs.scenarios.compared_beside_each.Goals as goal

pub compared_beside-requires-clause-bounded : goal.compared_beside-requires-clause-bounded
compared_beside-requires-clause-bounded g c κs within =
    subst (λ (changes : List Change). length changes ≤ MAX_SCENARIO_CHANGES) (sym c.changes_of-changes.ensures)
    (under_bounded c.args.scenarios.now c.as_str.result.now c.requires.bounded)
