use Rattle.mq_tables.proofs.PendingLemmas.{held_is, held_short}
use Rattle.mq_tables.proofs.staged.Staged.hold.Goals as goal

pub invariant_of-self-2 : goal.invariant_of-self-2
invariant_of-self-2 c =
    let s = c.self.inside in
    held_short c.args.schema.now c.args.self.now s.table s.had s.counted s.rows s.places.items c.self.view_is c.self.invariant c.args.c.now c.change_noting.new.rows c.change_noting.new.places.items
    c.in_ok-touched.touched c.in_ok-touched.ensures.exact c.in_ok-touched.ensures.noted

pub returns-clause-exact : goal.returns-clause-exact
returns-clause-exact c =
    let s = c.self.inside in
    held_is c.args.schema.now c.args.self.now s.table s.had s.counted s.rows s.places.items c.self.view_is c.self.invariant c.args.c.now c.change_noting.new.rows c.change_noting.new.places.items
    c.in_ok-touched.touched c.saturating_add-self-inside.result c.count-count.result c.in_ok-touched.ensures.exact c.in_ok-touched.ensures.noted c.count-count.ensures c.saturating_add-self-inside.ensures
