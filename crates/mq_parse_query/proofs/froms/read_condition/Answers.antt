use Rattle.std.proofs.Common.{arith}
use Rattle.mq_ast.specs.declared.levels.TheConstants as level
use Rattle.mq_ast.specs.Prelude.{ConditionE, Stops, condition}
use Rattle.mq_parse_words.specs.Reading.{from}
use Rattle.mq_parse_words.specs.StepLemmas.{quit, here, there}
use Rattle.mq_parse_query.proofs.PlainLemmas.{condition_no_on, condition_no_expr, condition_no_end}
use Rattle.mq_parse_query.proofs.froms.read_condition.Goals as goal

pub returns-in_err-behind : goal.returns-in_err-behind
returns-in_err-behind c =
    quit ConditionE c.args.t.now c.args.at c.from_residual.result c.in_err-behind.field-0.0 c.from_residual.ensures.1 c.in_err-behind.ensures (condition_no_on)

pub returns-in_err-e : goal.returns-in_err-e
returns-in_err-e c =
    quit ConditionE c.args.t.now c.args.at c.from_residual-in_err-e.result c.in_err-e.field-0.0 c.from_residual-in_err-e.ensures.1 c.in_err-e.ensures (λ h. here ConditionE (Stops level.ITEM) c.in_ok-behind.ensures.2 (condition_no_expr h))

pub returns-in_err-settled : goal.returns-in_err-settled
returns-in_err-settled c =
    quit ConditionE c.args.t.now c.args.at c.from_residual-in_err-settled.result c.in_err-settled.field-0.0 c.from_residual-in_err-settled.ensures.1 c.in_err-settled.ensures (λ h. here ConditionE (Stops level.ITEM) c.in_ok-behind.ensures.2 (condition_no_end (from c.args.t.now c.in_ok-e.to) c.in_ok-e.ensures.2 c.in_ok-e.ensures.3 h))

pub returns : goal.returns
returns c =
    let b = c.in_ok-behind.ensures in
    let e = c.in_ok-e.ensures in
    (omega (arith, b.0, e.0), e.1, there ConditionE b.2 (condition e.2), c.in_ok-settled.ensures)
