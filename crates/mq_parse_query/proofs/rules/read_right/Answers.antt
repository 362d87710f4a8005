use Rattle.std.proofs.Common.{arith}
use Rattle.mq_ast.specs.Prelude.{RuleRight, OrderE, rule_right}
use Rattle.mq_parse_words.specs.StepLemmas.{quit, till}
use Rattle.mq_parse_query.proofs.RuleLemmas.{right_no_order, right_no_equal, right_no_expr}
use Rattle.mq_parse_query.proofs.rules.read_right.Goals as goal

pub returns-in_err-order : goal.returns-in_err-order
returns-in_err-order c =
    quit RuleRight c.args.t.now c.args.at c.from_residual.result c.in_err-order.field-0.0 c.from_residual.ensures.1 c.in_err-order.ensures (right_no_order)

pub returns-in_err-behind : goal.returns-in_err-behind
returns-in_err-behind c =
    quit RuleRight c.args.t.now c.args.at c.from_residual-in_err-behind.result c.in_err-behind.field-0.0 c.from_residual-in_err-behind.ensures.1 c.in_err-behind.ensures (right_no_equal c.in_ok-order.ensures.2 c.in_ok-order.ensures.3)

pub returns-in_err-right : goal.returns-in_err-right
returns-in_err-right c =
    quit RuleRight c.args.t.now c.args.at c.from_residual-in_err-right.result c.in_err-right.field-0.0 c.from_residual-in_err-right.ensures.1 c.in_err-right.ensures (right_no_expr c.in_ok-order.ensures.2 c.in_ok-order.ensures.3 c.in_ok-behind.ensures.2)

pub returns : goal.returns
returns c =
    let o = c.in_ok-order.ensures in
    let b = c.in_ok-behind.ensures in
    let f = c.in_ok-right.ensures in
    (omega (arith, o.0, b.0, f.0), f.1, rule_right (till OrderE b.2 o.2) f.2, f.3)
