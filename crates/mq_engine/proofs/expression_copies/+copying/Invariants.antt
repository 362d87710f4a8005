use Rattle.std.proofs.Common.{◌≡◌, take}
use Rattle.mq_engine.proofs.expression_copies.+copying.Given as goal

abbrev pub invariant-same_exprs-loop-x : goal.invariant-same_exprs-loop-x
invariant-same_exprs-loop-x l = l.copies ≡ take l.x-index l.xs

abbrev pub invariant-same_terms-loop-term : goal.invariant-same_terms-loop-term
invariant-same_terms-loop-term l = l.copies ≡ take l.term-index l.terms

abbrev pub invariant-same_factors-loop-factor : goal.invariant-same_factors-loop-factor
invariant-same_factors-loop-factor l = l.copies ≡ take l.factor-index l.factors

abbrev pub invariant-same_arms-loop-arm : goal.invariant-same_arms-loop-arm
invariant-same_arms-loop-arm l = l.copies ≡ take l.arm-index l.arms

abbrev pub invariant-same_tests-loop-test : goal.invariant-same_tests-loop-test
invariant-same_tests-loop-test l = l.copies ≡ take l.test-index l.tests
