use Rattle.std.proofs.Common.{arith}
use Rattle.mq_parse_words.proofs.spelling.split_at_quote.Goals as goal

pub returns : goal.returns
returns c = c.split_once.ensures.byte (omega arith) (λ w o h. h)
