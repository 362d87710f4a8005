use Rattle.mq_delta_base.proofs.UnionLemmas.{next_is}
use Rattle.mq_delta_base.proofs.unions.push_next.Goals as goal

pub returns-clause-next : goal.returns-clause-next
returns-clause-next c =
    next_is c.args.a.now.rows c.args.at c.args.tuple.now c.args.rows.now.rows c.in_ok-end.end c.push_below.new.rows c.push.new.self c.behind.result c.in_ok-end.ensures.below
    c.in_ok-push.ensures c.behind.ensures
