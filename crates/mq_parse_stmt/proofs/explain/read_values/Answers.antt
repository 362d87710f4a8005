use Rattle.std.proofs.Common.{arith}
use Rattle.mq_ast.specs.Prelude.{Exprs}
use Rattle.mq_parse_words.specs.StepLemmas.{quit, till}
use Rattle.mq_parse_stmt.specs.Pieces.{ValuesEnd}
use Rattle.mq_parse_stmt.proofs.PieceLemmas.{values_no_first, values_no_close}
use Rattle.mq_parse_stmt.proofs.explain.read_values.Goals as goal

pub returns-in_err-values : goal.returns-in_err-values
returns-in_err-values c =
    quit ValuesEnd c.args.t.now c.args.at c.from_residual.result c.in_err-values.field-0.0 c.from_residual.ensures.1 c.in_err-values.ensures values_no_first

pub returns-in_err-to : goal.returns-in_err-to
returns-in_err-to c =
    quit ValuesEnd c.args.t.now c.args.at c.from_residual-in_err-to.result c.in_err-to.field-0.0 c.from_residual-in_err-to.ensures.1 c.in_err-to.ensures (values_no_close c.in_ok-values.ensures.2 c.in_ok-values.ensures.3)

pub returns : goal.returns
returns c =
    let v = c.in_ok-values.ensures in
    let e = c.in_ok-to.ensures in
    (omega (arith, v.0, e.0), e.1, till Exprs e.2 v.2, tt)
