use Rattle.mq_ast.specs.Prelude.{OrderE}
use Rattle.mq_parse_words.specs.Reading.{from}
use Rattle.mq_parse_words.specs.StepLemmas.{quit}
use Rattle.mq_parse_query.proofs.QueryLemmas.{last_no_order, last_no_end}
use Rattle.mq_parse_query.proofs.query.read_last.Goals as goal

pub returns-in_err-order : goal.returns-in_err-order
returns-in_err-order c =
    quit OrderE c.args.t.now c.args.at c.from_residual.result c.in_err-order.field-0.0 c.from_residual.ensures.1 c.in_err-order.ensures (last_no_order)

pub returns-in_err-settled : goal.returns-in_err-settled
returns-in_err-settled c =
    quit OrderE c.args.t.now c.args.at c.from_residual-in_err-settled.result c.in_err-settled.field-0.0 c.from_residual-in_err-settled.ensures.1 c.in_err-settled.ensures (last_no_end (from c.args.t.now c.in_ok-order.to) c.in_ok-order.ensures.2 c.in_ok-order.ensures.3)

pub returns : goal.returns
returns c = let o = c.in_ok-order.ensures in (o.0, o.1, o.2, c.in_ok-settled.ensures)
