-- How the trees of chains, terms and arms are made: a chain of one member is that member.
use Rattle.std.specs.Prelude.{List, [], ◌∷◌}
use Rattle.mq_values.specs.declared.operators.SumOp.{SumOp}
use Rattle.mq_values.specs.declared.operators.ProdOp.{ProdOp}
use Rattle.mq_ast.specs.declared.expressions.SumTerm.{SumTerm}
use Rattle.mq_ast.specs.declared.expressions.ProdTerm.{ProdTerm}
use Rattle.mq_ast.specs.declared.expressions.Arm.{Arm}
use Rattle.mq_ast.specs.declared.expressions.E.{E}
use Rattle.mq_ast.specs.declared.expressions.E.TheVariants as e

abbrev pub or_of : E → List E → E
or_of a [] = a
or_of a (b ∷ bs) = e.Or (a ∷ b ∷ bs)

abbrev pub and_of : E → List E → E
and_of a [] = a
and_of a (b ∷ bs) = e.And (a ∷ b ∷ bs)

abbrev pub sum_of : E → List SumTerm → E
sum_of a [] = a
sum_of a (b ∷ bs) = e.Sum a (b ∷ bs)

abbrev pub prod_of : E → List ProdTerm → E
prod_of a [] = a
prod_of a (b ∷ bs) = e.Prod a (b ∷ bs)

abbrev pub sum_term : SumOp → E → SumTerm
sum_term op a = record { op = op; e = a }

abbrev pub prod_term : ProdOp → E → ProdTerm
prod_term op a = record { op = op; e = a }

abbrev pub arm : E → E → Arm
arm a b = record { test = a; value = b }
