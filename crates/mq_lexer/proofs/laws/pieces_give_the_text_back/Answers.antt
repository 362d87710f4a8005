use Rattle.mq_lexer.proofs.LawLemmas.{pieces-texts}
use Rattle.mq_lexer.proofs.laws.pieces_give_the_text_back.Goals as goal

pub returns : goal.returns
returns c = pieces-texts
