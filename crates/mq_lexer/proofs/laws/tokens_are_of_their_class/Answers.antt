use Rattle.mq_lexer.proofs.LawLemmas.{tokens-classed}
use Rattle.mq_lexer.proofs.laws.tokens_are_of_their_class.Goals as goal

pub returns : goal.returns
returns c = tokens-classed
