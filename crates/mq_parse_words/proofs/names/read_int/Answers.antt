use Rattle.std.proofs.Common.{sym, ◌∙◌, arith}
use Rattle.mq_parse_words.specs.Names.{IntE, int}
use Rattle.mq_parse_words.specs.StepLemmas.{there}
use Rattle.mq_parse_words.proofs.names.read_int.Goals as goal

pub returns-then-scale-eq0 : goal.returns-then-scale-eq0
returns-then-scale-eq0 c = let s = c.in-Some.ensures in (omega arith, s.1, there IntE s.2 (int (sym c.scale.ensures.scale ∙ c.if-scale-eq0.true)), tt)
