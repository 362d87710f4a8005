use Rattle.std.proofs.Common.{sym}
use lib.Utf8.{encode}
use Rattle.mq_parse_words.proofs.spelling.behind_quote.Goals as goal

pub returns-in-Some : goal.returns-in-Some
unfolding encode
returns-in-Some c = let e = c.in-Some.ensures.cases in rw (sym e.2) at e.1.split

pub returns-in-None : goal.returns-in-None
unfolding encode
returns-in-None c = c.in-None.ensures.cases
