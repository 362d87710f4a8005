use Rattle.std.proofs.Common.{arith}
use Rattle.mq_ast.specs.Prelude.{reference}
use Rattle.mq_parse_query.specs.Pieces.{Refers}
use Rattle.mq_parse_words.specs.StepLemmas.{quit, as_value}
use Rattle.mq_parse_query.proofs.ModelLemmas.{ref_no_source, ref_no_axes, ref_no_opts}
use Rattle.mq_parse_query.proofs.heads.read_ref.Goals as goal

pub returns-in_err-source : goal.returns-in_err-source
returns-in_err-source c =
    quit Refers c.args.t.now c.args.at c.from_residual.result c.in_err-source.field-0.0 c.from_residual.ensures.1 c.in_err-source.ensures (ref_no_source)

pub returns-in_err-axes : goal.returns-in_err-axes
returns-in_err-axes c =
    quit Refers c.args.t.now c.args.at c.from_residual-in_err-axes.result c.in_err-axes.field-0.0 c.from_residual-in_err-axes.ensures.1 c.in_err-axes.ensures (ref_no_axes c.in_ok-source.ensures.2)

pub returns-in_err-opts : goal.returns-in_err-opts
returns-in_err-opts c =
    quit Refers c.args.t.now c.args.at c.from_residual-in_err-opts.result c.in_err-opts.field-0.0 c.from_residual-in_err-opts.ensures.1 c.in_err-opts.ensures (ref_no_opts c.in_ok-source.ensures.2 c.in_ok-axes.ensures.2)

pub returns : goal.returns
returns c =
    let x = c.in_ok-source.ensures in
    let y = c.in_ok-axes.ensures in
    let o = c.in_ok-opts.ensures in
    (omega (arith, x.0, y.0, o.0), o.1, as_value Refers c.in_ok-ref_tree.ensures (reference x.2 y.2 o.2), o.3)
