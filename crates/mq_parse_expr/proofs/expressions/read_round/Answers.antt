use Rattle.mq_parse_words.specs.Fronts.{RoundE}
use Rattle.mq_parse_words.specs.StepLemmas.{quit, as_value}
use Rattle.mq_parse_expr.proofs.expressions.read_round.Goals as goal

pub returns-in_err-e : goal.returns-in_err-e
returns-in_err-e c =
    quit RoundE c.args.t.now c.args.at c.from_residual.result c.in_err-e.field-0.0 c.from_residual.ensures.1 c.in_err-e.ensures (λ h. h)

pub returns : goal.returns
returns c =
    let d = c.in_ok-e.ensures in
    (d.0, d.1, as_value RoundE c.into_inner.ensures d.2, d.3)
