use Rattle.std.proofs.Common.{arith}
use Rattle.mq_ast.specs.Prelude.{OnE}
use Rattle.mq_parse_words.specs.StepLemmas.{quit, as_value}
use Rattle.mq_parse_query.proofs.PlainLemmas.{item_no_table, on_no_item, on_no_condition, on_whole}
use Rattle.mq_parse_query.proofs.froms.read_on_item.Goals as goal

pub returns-in_err-named : goal.returns-in_err-named
returns-in_err-named c =
    quit OnE c.args.t.now c.args.at c.from_residual.result c.in_err-named.field-0.0 c.from_residual.ensures.1 c.in_err-named.ensures (λ h. on_no_item (item_no_table h))

pub returns-in_err-e : goal.returns-in_err-e
returns-in_err-e c =
    quit OnE c.args.t.now c.args.at c.from_residual-in_err-e.result c.in_err-e.field-0.0 c.from_residual-in_err-e.ensures.1 c.in_err-e.ensures (on_no_condition c.in_ok-named.ensures.2 c.in_ok-named.ensures.3)

pub returns : goal.returns
returns c =
    let i = c.in_ok-named.ensures in
    let e = c.in_ok-e.ensures in
    (omega (arith, i.0, e.0), e.1, as_value OnE c.in_ok-with_condition.ensures (on_whole i.2 e.2), e.3)
