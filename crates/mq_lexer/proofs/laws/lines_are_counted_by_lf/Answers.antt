use Rattle.mq_lexer.proofs.LawLemmas.{pieces-lines}
use Rattle.mq_lexer.proofs.laws.lines_are_counted_by_lf.Goals as goal

pub returns : goal.returns
returns c = pieces-lines
