use Rattle.std.proofs.Common.{None, refl, arith}
use Rattle.mq_values.specs.declared.value.Value.TheVariants as value
use Rattle.mq_ast.specs.declared.expressions.E.TheVariants as tree
use Rattle.mq_ast.specs.GrammarNames.{path_of, path_one}
use Rattle.mq_ast.specs.GrammarExpression.{PrimE, prim_num, prim_path}
use Rattle.mq_parse_words.specs.StepLemmas.{there}
use Rattle.mq_parse_expr.proofs.lones.put_lone_term.Goals as goal

pub returns-in-Some : goal.returns-in-Some
returns-in-Some c =
    let n = c.in-Some.ensures in
    (tree.Name (path_of None c.in-Some.name.now), (omega (arith, n.0, n.1), there PrimE n.2 (prim_path path_one), c.if-not-stops.ensures.0 refl), c.in_ok-put_name_term.ensures)

pub returns-in_ok-put_number_term-in-Some-number_at : goal.returns-in_ok-put_number_term-in-Some-number_at
returns-in_ok-put_number_term-in-Some-number_at c =
    let n = c.in-Some-number_at.ensures in
    (tree.Lit (value.Num c.in-Some-number_at.number), (omega (arith, n.0, n.1), there PrimE n.2 prim_num, c.if-not-stops.ensures.0 refl), c.in_ok-put_number_term-in-Some-number_at.ensures)
