use Rattle.mq_ast.specs.declared.expressions.E.{E}
use Rattle.mq_bind_expr.specs.ExpressionParts.{index_found, prod_found, sum_found, test_found}
use Rattle.mq_bind_expr.specs.ExpressionRolls.{arm_found}
use Rattle.mq_bind_expr.specs.ExpressionWalk.{bound}
use Rattle.mq_bind_expr.specs.NumberedSteps.{Numbered}
use Rattle.mq_bind_expr.specs.StepLemmas.{Walked}
use Rattle.mq_bind_expr.proofs.+expression.Given as goal

abbrev pub invariant-visits::found_each-es : goal.invariant-visits::found_each-es
invariant-visits::found_each-es l = Walked (λ (e : E). bound l.scope e l.at) l.es l.e-index l.found

abbrev pub invariant-visits::found_terms-terms : goal.invariant-visits::found_terms-terms
invariant-visits::found_terms-terms l = Walked (sum_found l.scope l.at) l.terms l.term-index l.found

abbrev pub invariant-visits::found_factors-terms : goal.invariant-visits::found_factors-terms
invariant-visits::found_factors-terms l = Walked (prod_found l.scope l.at) l.terms l.term-index l.found

abbrev pub invariant-visits::found_arms-arms : goal.invariant-visits::found_arms-arms
invariant-visits::found_arms-arms l = Walked (arm_found l.scope l.at) l.arms l.arm-index l.found

abbrev pub invariant-place_visits::bound_indices-places : goal.invariant-place_visits::bound_indices-places
invariant-place_visits::bound_indices-places l = Numbered (index_found l.scope l.at l.owner) 0 l.places l.n l.n l.indices

abbrev pub invariant-place_visits::bound_tests-places : goal.invariant-place_visits::bound_tests-places
invariant-place_visits::bound_tests-places l = Numbered (test_found l.scope l.at) 0 l.places l.n l.n l.tests
