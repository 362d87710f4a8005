use Rattle.mq_ast.specs.Prelude.{AloneE, alone}
use Rattle.mq_parse_words.specs.StepLemmas.{quit, as_value}
use Rattle.mq_parse_query.proofs.RuleLemmas.{alone_no_expr}
use Rattle.mq_parse_query.proofs.left.read_alone.Goals as goal

pub returns-in_err-e : goal.returns-in_err-e
returns-in_err-e c =
    quit AloneE c.args.t.now c.args.at c.from_residual.result c.in_err-e.field-0.0 c.from_residual.ensures.1 c.in_err-e.ensures (alone_no_expr)

pub returns : goal.returns
returns c =
    let f = c.in_ok-e.ensures in
    (f.0, f.1, as_value AloneE c.in_ok-list_of.ensures (alone f.2), f.3)
