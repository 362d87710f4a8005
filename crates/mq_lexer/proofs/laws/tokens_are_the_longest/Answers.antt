use Rattle.mq_lexer.proofs.SpellingLemmas.{front-reads}
use Rattle.mq_lexer.proofs.laws.tokens_are_the_longest.Goals as goal

pub returns : goal.returns
returns c = front-reads
