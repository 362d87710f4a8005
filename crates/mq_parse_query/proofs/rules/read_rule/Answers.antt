use Rattle.std.proofs.Common.{arith}
use Rattle.mq_ast.specs.Prelude.{RuleE, rule}
use Rattle.mq_parse_words.specs.StepLemmas.{quit, as_value}
use Rattle.mq_parse_query.proofs.RuleLemmas.{rule_no_front, rule_no_left, rule_no_right}
use Rattle.mq_parse_query.proofs.rules.read_rule.Goals as goal

pub returns-in_err-front : goal.returns-in_err-front
returns-in_err-front c =
    quit RuleE c.args.t.now c.args.at c.from_residual.result c.in_err-front.field-0.0 c.from_residual.ensures.1 c.in_err-front.ensures (rule_no_front)

pub returns-in_err-left : goal.returns-in_err-left
returns-in_err-left c =
    quit RuleE c.args.t.now c.args.at c.from_residual-in_err-left.result c.in_err-left.field-0.0 c.from_residual-in_err-left.ensures.1 c.in_err-left.ensures (rule_no_left c.in_ok-front.ensures.2)

pub returns-in_err-right : goal.returns-in_err-right
returns-in_err-right c =
    quit RuleE c.args.t.now c.args.at c.from_residual-in_err-right.result c.in_err-right.field-0.0 c.from_residual-in_err-right.ensures.1 c.in_err-right.ensures (rule_no_right c.in_ok-front.ensures.2 c.in_ok-left.ensures.2)

pub returns : goal.returns
returns c =
    let f = c.in_ok-front.ensures in
    let l = c.in_ok-left.ensures in
    let r = c.in_ok-right.ensures in
    (omega (arith, f.0, l.0, r.0), r.1, as_value RuleE c.rule_tree.ensures (rule f.2 l.2 r.2), r.3)
