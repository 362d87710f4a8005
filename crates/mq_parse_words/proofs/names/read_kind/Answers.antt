use Rattle.std.proofs.Common.{arith}
use Rattle.mq_ast.specs.GrammarNames.{KindE, kind_int, kind_text, kind_date}
use Rattle.mq_parse_words.specs.StepLemmas.{there}
use Rattle.mq_parse_words.proofs.names.read_kind.Goals as goal

pub returns-in-Some : goal.returns-in-Some
returns-in-Some c = let s = c.in-Some.ensures in (omega (arith, s.0), s.1, there KindE s.2 kind_int, tt)

pub returns-in-Some-behind_word : goal.returns-in-Some-behind_word
returns-in-Some-behind_word c = let s = c.in-Some-behind_word.ensures in (omega (arith, s.0), s.1, there KindE s.2 kind_text, tt)

pub returns-in-Some-behind_word-2 : goal.returns-in-Some-behind_word-2
returns-in-Some-behind_word-2 c = let s = c.in-Some-behind_word-2.ensures in (omega (arith, s.0), s.1, there KindE s.2 kind_date, tt)
