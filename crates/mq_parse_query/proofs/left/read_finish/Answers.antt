use Rattle.std.proofs.Common.{arith}
use Rattle.mq_ast.specs.Prelude.{FinishE, finish}
use Rattle.mq_parse_words.specs.StepLemmas.{quit}
use Rattle.mq_parse_query.proofs.RuleLemmas.{finish_no_expr, finish_no_down}
use Rattle.mq_parse_query.proofs.left.read_finish.Goals as goal

pub returns-in_err-e : goal.returns-in_err-e
returns-in_err-e c =
    quit FinishE c.args.t.now c.args.at c.from_residual.result c.in_err-e.field-0.0 c.from_residual.ensures.1 c.in_err-e.ensures (finish_no_expr)

pub returns-in_err-down : goal.returns-in_err-down
returns-in_err-down c =
    quit FinishE c.args.t.now c.args.at c.from_residual-in_err-down.result c.in_err-down.field-0.0 c.from_residual-in_err-down.ensures.1 c.in_err-down.ensures (finish_no_down c.in_ok-e.ensures.2 c.in_ok-e.ensures.3)

pub returns : goal.returns
returns c =
    let f = c.in_ok-e.ensures in
    let e = c.in_ok-down.ensures in
    (omega (arith, f.0, e.0), e.1, finish f.2 e.2, tt)
