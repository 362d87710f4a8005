use Rattle.std.proofs.Common.{arith}
use Rattle.mq_ast.specs.Prelude.{FrontE, front}
use Rattle.mq_parse_words.specs.StepLemmas.{quit}
use Rattle.mq_parse_query.proofs.QueryLemmas.{front_no_opts, front_no_return, front_no_refs}
use Rattle.mq_parse_query.proofs.model.read_front.Goals as goal

pub returns-in_err-opts : goal.returns-in_err-opts
returns-in_err-opts c =
    quit FrontE c.args.t.now c.args.at c.from_residual.result c.in_err-opts.field-0.0 c.from_residual.ensures.1 c.in_err-opts.ensures (front_no_opts)

pub returns-in_err-updated : goal.returns-in_err-updated
returns-in_err-updated c =
    quit FrontE c.args.t.now c.args.at c.from_residual-in_err-updated.result c.in_err-updated.field-0.0 c.from_residual-in_err-updated.ensures.1 c.in_err-updated.ensures (front_no_return c.in_ok-opts.ensures.2 c.in_ok-opts.ensures.3)

pub returns-in_err-refs : goal.returns-in_err-refs
returns-in_err-refs c =
    quit FrontE c.args.t.now c.args.at c.from_residual-in_err-refs.result c.in_err-refs.field-0.0 c.from_residual-in_err-refs.ensures.1 c.in_err-refs.ensures (front_no_refs c.in_ok-opts.ensures.2 c.in_ok-opts.ensures.3 c.in_ok-updated.ensures.2 c.in_ok-updated.ensures.3)

pub returns : goal.returns
returns c =
    let o = c.in_ok-opts.ensures in
    let u = c.in_ok-updated.ensures in
    let f = c.in_ok-refs.ensures in
    (omega (arith, o.0, u.0, f.0), f.1, front o.2 u.2 f.2, f.3)
