use Rattle.mq_join.proofs.DeciderLemmas.{member_step, reached_in_step}
use Rattle.mq_join.proofs.deciders.add_members.Goals as goal

pub returns-then-not-sees_below : goal.returns-then-not-sees_below
returns-then-not-sees_below c =
    member_step c.args.count c.args.es.now c.members.e-index c.e-item.result c.all_see_below-safe.result c.decider_of.result c.args.deciders.now.items c.members.deciders.items c.push.new.self.items
    c.members-test.true c.e-item.is c.decider_of.ensures.e c.decider_of.ensures.safe c.decider_of.ensures.sees c.all_see_below-safe.ensures c.in_ok-push.ensures.items c.members.invariant.reached
    c.members.invariant.added

pub members-preserved : goal.members-preserved
members-preserved c =
    let es = c.args.es.now in
    let i = c.members.e-index in
    record {
      reached = reached_in_step c.args.count es i c.e-item.result c.members-test.true c.e-item.is (c.sees_below.ensures c.if-not-sees_below.false) c.members.invariant.reached;
      added =
          member_step c.args.count es i c.e-item.result c.all_see_below-safe.result c.decider_of.result c.args.deciders.now.items c.members.deciders.items c.push.new.self.items c.members-test.true
          c.e-item.is c.decider_of.ensures.e c.decider_of.ensures.safe c.decider_of.ensures.sees c.all_see_below-safe.ensures c.in_ok-push.ensures.items c.members.invariant.reached
          c.members.invariant.added;
    }
