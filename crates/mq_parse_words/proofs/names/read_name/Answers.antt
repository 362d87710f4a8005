use Rattle.std.proofs.Common.{arith}
use Rattle.mq_ast.specs.GrammarLists.{NameE, name}
use Rattle.mq_parse_words.specs.StepLemmas.{there, as_value}
use Rattle.mq_parse_words.proofs.names.read_name.Goals as goal

pub returns-in_ok-new-in-Some : goal.returns-in_ok-new-in-Some
returns-in_ok-new-in-Some c = let s = c.in-Some.ensures in (omega arith, s.1, as_value NameE c.in_ok-new-in-Some.ensures (there NameE s.2 name), tt)
