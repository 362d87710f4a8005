use Rattle.std.proofs.Common.{◌∙◌, arith}
use Rattle.mq_ast.specs.GrammarNames.{DayE, dtxt}
use Rattle.mq_parse_words.specs.StepLemmas.{there}
use Rattle.mq_parse_words.proofs.names.read_day.Goals as goal

pub returns-in-Some-from_text : goal.returns-in-Some-from_text
returns-in-Some-from_text c =
    let s = rw c.in-Some.is at c.in_ok-text.ensures in
    let e = c.in-Some-from_text.ensures in
    (omega arith, s.1, there DayE s.2 (dtxt (e.0, e.1 ∙ c.as_str.ensures.value)), tt)
