use Rattle.std.proofs.Common.{arith}
use Rattle.mq_ast.specs.Prelude.{KeyE}
use Rattle.mq_parse_words.specs.StepLemmas.{quit, as_value}
use Rattle.mq_parse_query.proofs.OrderLemmas.{key_no_name, key_no_direction, key_whole}
use Rattle.mq_parse_query.proofs.order.OrderKeyListed.read.Goals as goal

pub returns-in_err-name : goal.returns-in_err-name
returns-in_err-name c =
    quit KeyE c.args.t.now c.args.at c.from_residual.result c.in_err-name.field-0.0 c.from_residual.ensures.1 c.in_err-name.ensures (key_no_name)

pub returns-in_err-desc : goal.returns-in_err-desc
returns-in_err-desc c =
    quit KeyE c.args.t.now c.args.at c.from_residual-in_err-desc.result c.in_err-desc.field-0.0 c.from_residual-in_err-desc.ensures.1 c.in_err-desc.ensures (key_no_direction c.in_ok-name.ensures.2)

pub returns : goal.returns
returns c =
    let n = c.in_ok-name.ensures in
    let d = c.in_ok-desc.ensures in
    (omega (arith, n.0, d.0), d.1, as_value KeyE c.key_with.ensures (key_whole n.2 d.2), d.3)
