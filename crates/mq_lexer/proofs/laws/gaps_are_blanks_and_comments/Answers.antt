use Rattle.mq_lexer.proofs.CommentLemmas.{blank-front, line-front, block-front}
use Rattle.mq_lexer.proofs.laws.gaps_are_blanks_and_comments.Goals as goal

pub returns : goal.returns
returns c = record { blank = blank-front; line = line-front; block = block-front }
