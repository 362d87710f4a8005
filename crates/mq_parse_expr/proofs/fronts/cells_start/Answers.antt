use Rattle.mq_parse_expr.proofs.FrontLemmas.{cells_no_open}
use Rattle.mq_parse_expr.proofs.fronts.cells_start.Goals as goal

pub returns-in-None : goal.returns-in-None
returns-in-None c = cells_no_open c.in-None.ensures
