use Rattle.std.proofs.Common.{arith}
use Rattle.mq_ast.specs.Prelude.{AxesE, axes}
use Rattle.mq_parse_words.specs.StepLemmas.{quit}
use Rattle.mq_parse_query.proofs.ModelLemmas.{axes_no_dims, axes_no_cols}
use Rattle.mq_parse_query.proofs.heads.read_axes.Goals as goal

pub returns-in_err-dims : goal.returns-in_err-dims
returns-in_err-dims c =
    quit AxesE c.args.t.now c.args.at c.from_residual.result c.in_err-dims.field-0.0 c.from_residual.ensures.1 c.in_err-dims.ensures (axes_no_dims)

pub returns-in_err-measures : goal.returns-in_err-measures
returns-in_err-measures c =
    quit AxesE c.args.t.now c.args.at c.from_residual-in_err-measures.result c.in_err-measures.field-0.0 c.from_residual-in_err-measures.ensures.1 c.in_err-measures.ensures (axes_no_cols c.in_ok-dims.ensures.2)

pub returns : goal.returns
returns c =
    let d = c.in_ok-dims.ensures in
    let m = c.in_ok-measures.ensures in
    (omega (arith, d.0, m.0), m.1, axes d.2 m.2, tt)
