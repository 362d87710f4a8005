use Rattle.std.proofs.Common.{◌≡◌, ◌+◌, ◌-◌, List, drop, subst, arith}
use Rattle.mq_values.specs.declared.value.Value.{Value}
use Rattle.mq_cells.specs.Stores.{cell_name}
use Rattle.mq_lineage.specs.Nodes.{Numbers}
use Rattle.mq_lineage.specs.Rules.{HasRulesIn}
use Rattle.mq_lineage.proofs.RuleLemmas.{rules_more}
use Rattle.mq_lineage.proofs.rules.rules_in.Goals as goal

pub assigned-preserved : goal.assigned-preserved
assigned-preserved c =
    let left = c.assigned.left in
    let some = c.assigned-test.true in
    let within = c.assigned.invariant.0 in
    let a = c.index-assigned-left.result in
    let e : left ≡ left - 1 + 1 = omega (arith, some) in (
      omega (arith, within),
      rules_more c.args.assigned.now (left - 1) a c.assigned.rules c.put.new.self (omega (arith, some, within)) c.index-assigned-left.is
          (subst (λ n. HasRulesIn (drop n c.args.assigned.now) c.assigned.rules) e c.assigned.invariant.1)
          (subst (λ (key : List Value). Numbers c.assigned.rules c.put.new.self (cell_name key a.1) a.2) c.in_ok-copy.ensures c.in_ok-put.ensures.ok),
    )
