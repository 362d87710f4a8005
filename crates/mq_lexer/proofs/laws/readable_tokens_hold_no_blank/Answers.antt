use Rattle.mq_lexer.proofs.LawLemmas.{tokens-clear}
use Rattle.mq_lexer.proofs.laws.readable_tokens_hold_no_blank.Goals as goal

pub returns : goal.returns
returns c = tokens-clear
