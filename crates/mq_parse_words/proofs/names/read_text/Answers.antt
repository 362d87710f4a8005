use Rattle.std.proofs.Common.{◌∙◌, arith}
use Rattle.mq_parse_words.specs.Names.{TextE, txt}
use Rattle.mq_parse_words.specs.StepLemmas.{there, as_value}
use Rattle.mq_parse_words.proofs.names.read_text.Goals as goal

pub returns-in_ok-new-in-Some : goal.returns-in_ok-new-in-Some
returns-in_ok-new-in-Some c = let s = rw c.in-Some.is at c.in_ok-text.ensures in (omega arith, s.1, as_value TextE (c.in_ok-new-in-Some.ensures ∙ c.as_str.ensures.value) (there TextE s.2 txt), tt)
