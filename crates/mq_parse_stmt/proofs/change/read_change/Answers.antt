use Rattle.mq_parse_stmt.proofs.ChangeLemmas.{change_no_other}
use Rattle.mq_parse_stmt.proofs.change.read_change.Goals as goal

pub returns-in-None : goal.returns-in-None
returns-in-None c =
    change_no_other c.in_default.ensures c.in_default-behind_word.ensures c.in-None.ensures
