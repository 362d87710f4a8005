use Rattle.std.proofs.Common.{arith}
use Rattle.mq_ast.specs.Prelude.{FromE, items}
use Rattle.mq_parse_words.specs.StepLemmas.{quit, as_value}
use Rattle.mq_parse_query.proofs.PlainLemmas.{from_no_item, from_no_joins}
use Rattle.mq_parse_query.proofs.froms.read_from.Goals as goal

pub returns-in_err-first : goal.returns-in_err-first
returns-in_err-first c =
    quit FromE c.args.t.now c.args.at c.from_residual.result c.in_err-first.field-0.0 c.from_residual.ensures.1 c.in_err-first.ensures (from_no_item)

pub returns-in_err-all : goal.returns-in_err-all
returns-in_err-all c =
    quit FromE c.args.t.now c.args.at c.from_residual-in_err-all.result c.in_err-all.field-0.0 c.from_residual-in_err-all.ensures.1 c.in_err-all.ensures (from_no_joins c.in_ok-first.ensures.2 c.in_ok-first.ensures.3)

pub returns : goal.returns
returns c =
    let i = c.in_ok-first.ensures in
    let l = c.in_ok-all.ensures in
    (omega (arith, i.0, l.0), l.1, as_value FromE c.in_ok-put_before.ensures (items i.2 l.2), l.3)
