use Rattle.mq_lexer.proofs.LawLemmas.{statements-flat}
use Rattle.mq_lexer.proofs.laws.statements_hold_the_tokens.Goals as goal

pub returns : goal.returns
returns c = statements-flat
