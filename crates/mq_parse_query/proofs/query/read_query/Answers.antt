use Rattle.std.proofs.Common.{arith}
use Rattle.mq_ast.specs.Prelude.{QueryE, query}
use Rattle.mq_parse_words.specs.StepLemmas.{quit, as_value}
use Rattle.mq_parse_query.proofs.QueryLemmas.{query_no_plain, query_no_end}
use Rattle.mq_parse_query.proofs.query.read_query.Goals as goal

pub returns-in_err-plain : goal.returns-in_err-plain
returns-in_err-plain c =
    quit QueryE c.args.t.now c.args.at c.from_residual.result c.in_err-plain.field-0.0 c.from_residual.ensures.1 c.in_err-plain.ensures (query_no_plain)

pub returns-in_err-end : goal.returns-in_err-end
returns-in_err-end c =
    quit QueryE c.args.t.now c.args.at c.from_residual-in_err-end.result c.in_err-end.field-0.0 c.from_residual-in_err-end.ensures.1 c.in_err-end.ensures (query_no_end c.in_ok-plain.ensures.2 c.in_ok-plain.ensures.3)

pub returns : goal.returns
returns c =
    let p = c.in_ok-plain.ensures in
    let e = c.in_ok-end.ensures in
    (omega (arith, p.0, e.0), e.1, as_value QueryE c.query_tree.ensures (query p.2 e.2), e.3)
