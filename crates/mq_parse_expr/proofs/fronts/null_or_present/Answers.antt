use Rattle.std.proofs.Common.{arith}
use Rattle.mq_parse_words.specs.StepLemmas.{quit, there}
use Rattle.mq_parse_expr.proofs.FrontLemmas.{asks_no_word}
use Rattle.mq_parse_words.specs.Fronts.{NullOrPresent, asks_null, asks_present}
use Rattle.mq_parse_expr.proofs.fronts.null_or_present.Goals as goal

pub returns-in-Some : goal.returns-in-Some
returns-in-Some c = let s = c.in-Some.ensures in (omega (arith, s.0), s.1, there (NullOrPresent c.args.not) s.2 asks_null, tt)

pub returns-in_err-to-in-None : goal.returns-in_err-to-in-None
returns-in_err-to-in-None c =
    quit (NullOrPresent c.args.not) c.args.t.now c.args.at c.from_residual.result c.in_err-to-in-None.field-0.0 c.from_residual.ensures.1 c.in_err-to-in-None.ensures (λ h. asks_no_word c.in-None.ensures h)

pub returns-in_ok-to-in-None : goal.returns-in_ok-to-in-None
returns-in_ok-to-in-None c = let s = c.in_ok-to-in-None.ensures in (omega (arith, s.0), s.1, there (NullOrPresent c.args.not) s.2 asks_present, tt)
