use Rattle.mq_parse_query.proofs.RuleLemmas.{for_open, no_for}
use Rattle.mq_parse_query.proofs.left.behind_for.Goals as goal

pub returns-in-Some : goal.returns-in-Some
returns-in-Some c = for_open c.args.t.now c.args.at c.in-Some.open c.behind_sign.result c.in-Some.ensures c.behind_sign.ensures

pub returns-in-None : goal.returns-in-None
returns-in-None c = no_for c.in-None.ensures
