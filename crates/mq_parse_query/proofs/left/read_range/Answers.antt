use Rattle.std.proofs.Common.{arith}
use Rattle.mq_ast.specs.Prelude.{RangeE, range}
use Rattle.mq_parse_words.specs.StepLemmas.{quit, as_value}
use Rattle.mq_parse_query.proofs.RuleLemmas.{range_no_start, range_no_finish, range_no_step}
use Rattle.mq_parse_query.proofs.left.read_range.Goals as goal

pub returns-in_err-start : goal.returns-in_err-start
returns-in_err-start c =
    quit RangeE c.args.t.now c.args.at c.from_residual.result c.in_err-start.field-0.0 c.from_residual.ensures.1 c.in_err-start.ensures (range_no_start)

pub returns-in_err-finish : goal.returns-in_err-finish
returns-in_err-finish c =
    quit RangeE c.args.t.now c.args.at c.from_residual-in_err-finish.result c.in_err-finish.field-0.0 c.from_residual-in_err-finish.ensures.1 c.in_err-finish.ensures (range_no_finish c.in_ok-start.ensures.2)

pub returns-in_err-step : goal.returns-in_err-step
returns-in_err-step c =
    quit RangeE c.args.t.now c.args.at c.from_residual-in_err-step.result c.in_err-step.field-0.0 c.from_residual-in_err-step.ensures.1 c.in_err-step.ensures (range_no_step c.in_ok-start.ensures.2 c.in_ok-finish.ensures.2)

pub returns : goal.returns
returns c =
    let a = c.in_ok-start.ensures in
    let b = c.in_ok-finish.ensures in
    let s = c.in_ok-step.ensures in
    (omega (arith, a.0, b.0, s.0), s.1, as_value RangeE c.in_ok-range_from.ensures (range a.2 b.2 s.2), s.3)
