use Rattle.mq_lexer.proofs.WordLemmas.{same_folded}
use Rattle.mq_lexer.proofs.words.same_word.Goals as goal

pub returns : goal.returns
returns c = same_folded c.eq_ignore_ascii_case.result c.args.a.now c.args.b.now c.eq_ignore_ascii_case.ensures.test
