use Rattle.mq_parse_expr.proofs.FrontLemmas.{all_no_open, all_no_star, star_closed}
use Rattle.mq_parse_expr.proofs.fronts.star_end.Goals as goal

pub returns-in-Some-behind_sign : goal.returns-in-Some-behind_sign
returns-in-Some-behind_sign c = star_closed c.args.t.now c.args.at c.in-Some.open c.in-Some-behind_sign.close c.behind_sign-in-Some-behind_sign.result c.in-Some.ensures c.in-Some-behind_sign.ensures c.behind_sign-in-Some-behind_sign.ensures

pub returns-in-None : goal.returns-in-None
returns-in-None c = all_no_open c.in-None.ensures

pub returns-in-None-behind_sign : goal.returns-in-None-behind_sign
returns-in-None-behind_sign c = all_no_star c.in-Some.ensures.2 c.in-None-behind_sign.ensures
