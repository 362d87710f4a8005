use Rattle.std.proofs.Common.{arith}
use Rattle.mq_ast.specs.Prelude.{BodyE, body}
use Rattle.mq_parse_words.specs.StepLemmas.{quit}
use Rattle.mq_parse_query.proofs.QueryLemmas.{body_no_main, body_no_parts, body_no_axes}
use Rattle.mq_parse_query.proofs.model.read_body.Goals as goal

pub returns-in_err-main : goal.returns-in_err-main
returns-in_err-main c =
    quit BodyE c.args.t.now c.args.at c.from_residual.result c.in_err-main.field-0.0 c.from_residual.ensures.1 c.in_err-main.ensures (body_no_main)

pub returns-in_err-parts : goal.returns-in_err-parts
returns-in_err-parts c =
    quit BodyE c.args.t.now c.args.at c.from_residual-in_err-parts.result c.in_err-parts.field-0.0 c.from_residual-in_err-parts.ensures.1 c.in_err-parts.ensures (body_no_parts c.in_ok-main.ensures.2 c.in_ok-main.ensures.3)

pub returns-in_err-axes : goal.returns-in_err-axes
returns-in_err-axes c =
    quit BodyE c.args.t.now c.args.at c.from_residual-in_err-axes.result c.in_err-axes.field-0.0 c.from_residual-in_err-axes.ensures.1 c.in_err-axes.ensures (body_no_axes c.in_ok-main.ensures.2 c.in_ok-main.ensures.3 c.in_ok-parts.ensures.2 c.in_ok-parts.ensures.3)

pub returns : goal.returns
returns c =
    let m = c.in_ok-main.ensures in
    let p = c.in_ok-parts.ensures in
    let x = c.in_ok-axes.ensures in
    (omega (arith, m.0, p.0, x.0), x.1, body m.2 p.2 x.2, tt)
