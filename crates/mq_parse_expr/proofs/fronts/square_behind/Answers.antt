use Rattle.mq_parse_expr.proofs.FrontLemmas.{square_none}
use Rattle.mq_parse_expr.proofs.fronts.square_behind.Goals as goal

pub returns-in-None : goal.returns-in-None
returns-in-None c = square_none c.in-None.ensures
