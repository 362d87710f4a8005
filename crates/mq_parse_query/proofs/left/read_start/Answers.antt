use Rattle.std.proofs.Common.{arith}
use Rattle.mq_ast.specs.Prelude.{Expr, StartE, start}
use Rattle.mq_parse_words.specs.Reading.{Anywhere}
use Rattle.mq_parse_words.specs.StepLemmas.{quit, here, there, till}
use Rattle.mq_parse_query.proofs.RuleLemmas.{start_no_from, start_no_expr, start_no_to}
use Rattle.mq_parse_query.proofs.left.read_start.Goals as goal

pub returns-in_err-behind : goal.returns-in_err-behind
returns-in_err-behind c =
    quit StartE c.args.t.now c.args.at c.from_residual.result c.in_err-behind.field-0.0 c.from_residual.ensures.1 c.in_err-behind.ensures (start_no_from)

pub returns-in_err-e : goal.returns-in_err-e
returns-in_err-e c =
    quit StartE c.args.t.now c.args.at c.from_residual-in_err-e.result c.in_err-e.field-0.0 c.from_residual-in_err-e.ensures.1 c.in_err-e.ensures (λ h. here StartE Anywhere c.in_ok-behind.ensures.2 (start_no_expr h))

pub returns-in_err-to : goal.returns-in_err-to
returns-in_err-to c =
    quit StartE c.args.t.now c.args.at c.from_residual-in_err-to.result c.in_err-to.field-0.0 c.from_residual-in_err-to.ensures.1 c.in_err-to.ensures (λ h. here StartE Anywhere c.in_ok-behind.ensures.2 (start_no_to c.in_ok-e.ensures.2 c.in_ok-e.ensures.3 h))

pub returns : goal.returns
returns c =
    let b = c.in_ok-behind.ensures in
    let f = c.in_ok-e.ensures in
    let e = c.in_ok-to.ensures in
    (omega (arith, b.0, f.0, e.0), e.1, there StartE b.2 (start (till Expr e.2 f.2)), tt)
