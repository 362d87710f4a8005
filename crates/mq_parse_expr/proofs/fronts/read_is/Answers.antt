use Rattle.mq_parse_words.specs.StepLemmas.{quit, as_value}
use Rattle.mq_parse_words.specs.Reading.{from}
use Rattle.mq_parse_expr.proofs.FrontLemmas.{is_no_test, is_no_end, asks_tail}
use Rattle.mq_parse_words.specs.Fronts.{Since, is_front}
use Rattle.mq_parse_expr.proofs.fronts.read_is.Goals as goal

pub returns-in_err-test : goal.returns-in_err-test
returns-in_err-test c =
    quit (Since is_front c.args.a) c.args.t.now c.args.at c.from_residual.result c.in_err-test.field-0.0 c.from_residual.ensures.1 c.in_err-test.ensures (is_no_test)

pub returns-in_err-settled : goal.returns-in_err-settled
returns-in_err-settled c =
    quit (Since is_front c.args.a) c.args.t.now c.args.at c.from_residual-in_err-settled.result c.in_err-settled.field-0.0 c.from_residual-in_err-settled.ensures.1 c.in_err-settled.ensures (λ h. is_no_end (from c.args.t.now c.in_ok-test.to) c.in_ok-test.ensures.2 h)

pub returns : goal.returns
returns c =
    let x = c.in_ok-test.ensures in
    (x.0, x.1, as_value (Since is_front c.args.a) c.in_ok-judged.ensures (asks_tail x.2), c.in_ok-settled.ensures)
