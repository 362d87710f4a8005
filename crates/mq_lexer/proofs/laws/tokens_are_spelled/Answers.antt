use Rattle.mq_lexer.proofs.LawLemmas.{tokens-spelled}
use Rattle.mq_lexer.proofs.laws.tokens_are_spelled.Goals as goal

pub returns : goal.returns
returns c = tokens-spelled
