use Rattle.mq_ast.specs.GrammarNames.{path_one}
use Rattle.mq_ast.specs.GrammarExpression.{PrimE, prim_num, prim_path}
use Rattle.mq_parse_words.specs.StepLemmas.{there, as_value}
use Rattle.mq_parse_expr.proofs.fronts.operand.Goals as goal

pub returns-in-Some : goal.returns-in-Some
returns-in-Some c = as_value PrimE c.in_ok-column.ensures (there PrimE c.in-Some.ensures.2 (prim_path path_one))

pub returns-in_ok-number-in-Some-number_at : goal.returns-in_ok-number-in-Some-number_at
returns-in_ok-number-in-Some-number_at c = as_value PrimE c.in_ok-number-in-Some-number_at.ensures (there PrimE c.in-Some-number_at.ensures.2 prim_num)
