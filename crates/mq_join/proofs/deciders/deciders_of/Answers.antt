use Rattle.mq_join.proofs.DeciderLemmas.{condition_more, condition_seen}
use Rattle.mq_join.proofs.deciders.deciders_of.Goals as goal

pub returns-then-not-sees_below : goal.returns-then-not-sees_below
returns-then-not-sees_below c =
    condition_more c.args.conditions.now c.conditions.condition-index c.condition-item.result c.expr-e.result.now c.conditions.deciders.items c.add_deciders.new.deciders.items c.conditions-test.true
    c.condition-item.is c.expr-e.ensures c.in_ok-add_deciders.ensures c.conditions.invariant.reached c.conditions.invariant.deciders

pub conditions-preserved : goal.conditions-preserved
conditions-preserved c =
    let conditions = c.args.conditions.now in
    let i = c.conditions.condition-index in
    let item = c.condition-item.result in
    let e = c.expr-e.result.now in
    record {
      reached = condition_seen c.args.count conditions i item e c.conditions-test.true c.condition-item.is c.expr-e.ensures (c.sees_below.ensures c.if-not-sees_below.false) c.conditions.invariant.reached;
      deciders =
          condition_more conditions i item e c.conditions.deciders.items c.add_deciders.new.deciders.items c.conditions-test.true c.condition-item.is c.expr-e.ensures c.in_ok-add_deciders.ensures
          c.conditions.invariant.reached c.conditions.invariant.deciders;
    }
