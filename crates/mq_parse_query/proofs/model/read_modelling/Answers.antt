use Rattle.std.proofs.Common.{arith}
use Rattle.mq_ast.specs.Prelude.{model}
use Rattle.mq_parse_query.specs.Pieces.{Modelling}
use Rattle.mq_parse_words.specs.StepLemmas.{quit, as_value}
use Rattle.mq_parse_query.proofs.QueryLemmas.{model_no_front, model_no_body, model_no_tail}
use Rattle.mq_parse_query.proofs.model.read_modelling.Goals as goal

pub returns-in_err-front : goal.returns-in_err-front
returns-in_err-front c =
    quit Modelling c.args.t.now c.args.at c.from_residual.result c.in_err-front.field-0.0 c.from_residual.ensures.1 c.in_err-front.ensures (model_no_front)

pub returns-in_err-body : goal.returns-in_err-body
returns-in_err-body c =
    quit Modelling c.args.t.now c.args.at c.from_residual-in_err-body.result c.in_err-body.field-0.0 c.from_residual-in_err-body.ensures.1 c.in_err-body.ensures (model_no_body c.in_ok-front.ensures.2 c.in_ok-front.ensures.3)

pub returns-in_err-tail : goal.returns-in_err-tail
returns-in_err-tail c =
    quit Modelling c.args.t.now c.args.at c.from_residual-in_err-tail.result c.in_err-tail.field-0.0 c.from_residual-in_err-tail.ensures.1 c.in_err-tail.ensures (model_no_tail c.in_ok-front.ensures.2 c.in_ok-front.ensures.3 c.in_ok-body.ensures.2)

pub returns : goal.returns
returns c =
    let f = c.in_ok-front.ensures in
    let b = c.in_ok-body.ensures in
    let e = c.in_ok-tail.ensures in
    (omega (arith, f.0, b.0, e.0), e.1, as_value Modelling c.in_ok-model_tree.ensures (model f.2 b.2 e.2), tt)
