use Rattle.std.proofs.Common.{arith}
use Rattle.mq_ast.specs.Prelude.{TailE, tail}
use Rattle.mq_parse_words.specs.StepLemmas.{quit, as_value}
use Rattle.mq_parse_query.proofs.QueryLemmas.{tail_no_opts, tail_no_head, tail_no_rules}
use Rattle.mq_parse_query.proofs.model.read_tail.Goals as goal

pub returns-in_err-opts : goal.returns-in_err-opts
returns-in_err-opts c =
    quit TailE c.args.t.now c.args.at c.from_residual.result c.in_err-opts.field-0.0 c.from_residual.ensures.1 c.in_err-opts.ensures (tail_no_opts)

pub returns-in_err-head : goal.returns-in_err-head
returns-in_err-head c =
    quit TailE c.args.t.now c.args.at c.from_residual-in_err-head.result c.in_err-head.field-0.0 c.from_residual-in_err-head.ensures.1 c.in_err-head.ensures (tail_no_head c.in_ok-opts.ensures.2 c.in_ok-opts.ensures.3)

pub returns-in_err-rules : goal.returns-in_err-rules
returns-in_err-rules c =
    quit TailE c.args.t.now c.args.at c.from_residual-in_err-rules.result c.in_err-rules.field-0.0 c.from_residual-in_err-rules.ensures.1 c.in_err-rules.ensures (tail_no_rules c.in_ok-opts.ensures.2 c.in_ok-opts.ensures.3 c.in_ok-head.ensures.2 c.in_ok-head.ensures.3)

pub returns : goal.returns
returns c =
    let o = c.in_ok-opts.ensures in
    let h = c.in_ok-head.ensures in
    let r = c.in_ok-rules.ensures in
    (omega (arith, o.0, h.0, r.0), r.1, as_value TailE c.in_ok-tail_with.ensures (tail o.2 h.2 r.2), tt)
