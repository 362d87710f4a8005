use Rattle.std.proofs.Common.{arith}
use Rattle.mq_ast.specs.Prelude.{SelE, sel}
use Rattle.mq_parse_words.specs.StepLemmas.{quit, as_value}
use Rattle.mq_parse_query.proofs.PlainLemmas.{sel_no_expr, sel_no_alias}
use Rattle.mq_parse_query.proofs.columns.SelListed.read.Goals as goal

pub returns-in_err-e : goal.returns-in_err-e
returns-in_err-e c =
    quit SelE c.args.t.now c.args.at c.from_residual.result c.in_err-e.field-0.0 c.from_residual.ensures.1 c.in_err-e.ensures (sel_no_expr)

pub returns-in_err-alias : goal.returns-in_err-alias
returns-in_err-alias c =
    quit SelE c.args.t.now c.args.at c.from_residual-in_err-alias.result c.in_err-alias.field-0.0 c.from_residual-in_err-alias.ensures.1 c.in_err-alias.ensures (sel_no_alias c.in_ok-e.ensures.2 c.in_ok-e.ensures.3)

pub returns : goal.returns
returns c =
    let e = c.in_ok-e.ensures in
    let o = c.in_ok-alias.ensures in
    (omega (arith, e.0, o.0), o.1, as_value SelE c.sel_with.ensures (sel e.2 o.2), o.3)
