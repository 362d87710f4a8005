use Rattle.std.proofs.Common.{arith}
use Rattle.mq_ast.specs.Prelude.{EndE, ending, model_none, model_some}
use Rattle.mq_parse_words.specs.StepLemmas.{quit}
use Rattle.mq_parse_query.proofs.QueryLemmas.{end_no_model, end_no_last, end_no_order}
use Rattle.mq_parse_query.proofs.query.read_end.Goals as goal

pub returns-in_err-model-in-Some : goal.returns-in_err-model-in-Some
returns-in_err-model-in-Some c =
    quit EndE c.args.t.now c.args.at c.from_residual.result c.in_err-model-in-Some.field-0.0 c.from_residual.ensures.1 c.in_err-model-in-Some.ensures (end_no_model c.in-Some.ensures.2)

pub returns-in_err-order-in-Some : goal.returns-in_err-order-in-Some
returns-in_err-order-in-Some c =
    quit EndE c.args.t.now c.args.at c.from_residual-in_err-order-in-Some.result c.in_err-order-in-Some.field-0.0 c.from_residual-in_err-order-in-Some.ensures.1 c.in_err-order-in-Some.ensures (end_no_last c.in-Some.ensures.2 c.in_ok-model-in-Some.ensures.2)

pub returns-in_ok-order-in-Some : goal.returns-in_ok-order-in-Some
returns-in_ok-order-in-Some c =
    let m = c.in_ok-model-in-Some.ensures in
    let o = c.in_ok-order-in-Some.ensures in
    (omega (arith, m.0, o.0), o.1, ending (model_some m.2) o.2, o.3)

pub returns-in_err-order-in-None : goal.returns-in_err-order-in-None
returns-in_err-order-in-None c =
    quit EndE c.args.t.now c.args.at c.from_residual-in_err-order-in-None.result c.in_err-order-in-None.field-0.0 c.from_residual-in_err-order-in-None.ensures.1 c.in_err-order-in-None.ensures (end_no_order c.in-None.ensures)

pub returns-in_ok-order-in-None : goal.returns-in_ok-order-in-None
returns-in_ok-order-in-None c = let o = c.in_ok-order-in-None.ensures in (o.0, o.1, ending model_none o.2, o.3)
