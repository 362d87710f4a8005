use Rattle.std.proofs.Common.{◌∷◌, ap, ◌∙◌, arith}
use Rattle.mq_lexer.specs.declared.keywords.Keyword.TheVariants as word
use Rattle.mq_ast.specs.Prelude.{EndsOrder, OrderE, Word, order_none, order_some}
use Rattle.mq_parse_words.specs.Reading.{from}
use Rattle.mq_parse_words.specs.StepLemmas.{quit, here, there, as_value}
use Rattle.mq_parse_query.proofs.OrderLemmas.{order_no_order, order_no_by, order_no_keys, order_no_end}
use Rattle.mq_parse_query.proofs.order.read_order.Goals as goal

pub returns-in_err-ends_order : goal.returns-in_err-ends_order
returns-in_err-ends_order c =
    quit OrderE c.args.t.now c.args.at c.from_residual.result c.in_err-ends_order.field-0.0 c.from_residual.ensures.1 c.in_err-ends_order.ensures (order_no_order c.in_default.ensures)

pub returns-in_default : goal.returns-in_default
returns-in_default c = (omega arith, c.requires, as_value OrderE c.new.ensures order_none, c.in_ok-ends_order.ensures)

pub returns-in_err-by : goal.returns-in_err-by
returns-in_err-by c =
    quit OrderE c.args.t.now c.args.at c.from_residual-in_err-by.result c.in_err-by.field-0.0 c.from_residual-in_err-by.ensures.1 c.in_err-by.ensures (λ h. here OrderE EndsOrder c.in-Some.ensures.2 (order_no_by h))

pub returns-in_err-keys : goal.returns-in_err-keys
returns-in_err-keys c =
    quit OrderE c.args.t.now c.args.at c.from_residual-in_err-keys.result c.in_err-keys.field-0.0 c.from_residual-in_err-keys.ensures.1 c.in_err-keys.ensures (λ h. here OrderE EndsOrder (c.in-Some.ensures.2 ∙ ap (λ r. Word word.Order ∷ r) c.in_ok-by.ensures.2) (order_no_keys h))

pub returns-in_err-ends_order-2 : goal.returns-in_err-ends_order-2
returns-in_err-ends_order-2 c =
    quit OrderE c.args.t.now c.args.at c.from_residual-in_err-ends_order-2.result c.in_err-ends_order-2.field-0.0 c.from_residual-in_err-ends_order-2.ensures.1 c.in_err-ends_order-2.ensures (λ h. here OrderE EndsOrder (c.in-Some.ensures.2 ∙ ap (λ r. Word word.Order ∷ r) c.in_ok-by.ensures.2) (order_no_end (from c.args.t.now c.in_ok-keys.to) c.in_ok-keys.ensures.2 c.in_ok-keys.ensures.3 h))

pub returns : goal.returns
returns c =
    let s = c.in-Some.ensures in
    let b = c.in_ok-by.ensures in
    let l = c.in_ok-keys.ensures in
    (omega (arith, s.0, b.0, l.0), l.1, there OrderE (s.2 ∙ ap (λ r. Word word.Order ∷ r) b.2) (order_some l.2), c.in_ok-ends_order-2.ensures)
