use Rattle.std.proofs.Common.{arith}
use Rattle.mq_ast.specs.Prelude.{DirectionE, EndsKey, direction_asc, direction_desc, direction_none}
use Rattle.mq_parse_words.specs.StepLemmas.{quit, here, there}
use Rattle.mq_parse_query.proofs.OrderLemmas.{direction_no_asc}
use Rattle.mq_parse_query.proofs.order.read_direction.Goals as goal

pub returns-in_err-ends_key : goal.returns-in_err-ends_key
returns-in_err-ends_key c =
    quit DirectionE c.args.t.now c.args.at c.from_residual.result c.in_err-ends_key.field-0.0 c.from_residual.ensures.1 c.in_err-ends_key.ensures (λ h. here DirectionE EndsKey c.in-Some.ensures.2 (direction_no_asc h))

pub returns-in-Some : goal.returns-in-Some
returns-in-Some c = let s = c.in-Some.ensures in (omega (arith, s.0), s.1, there DirectionE s.2 direction_asc, c.in_ok-ends_key.ensures)

pub returns-in-Some-behind_word : goal.returns-in-Some-behind_word
returns-in-Some-behind_word c = let s = c.in-Some-behind_word.ensures in (omega (arith, s.0), s.1, there DirectionE s.2 direction_desc, c.in_ok-ends_key-2.ensures)

pub returns : goal.returns
returns c = (omega arith, c.requires, direction_none, (c.in_default.ensures, c.in_default-behind_word.ensures))
