use Rattle.std.proofs.Common.{◌≡◌, take}
use Rattle.mq_values.proofs.+copying.Given as goal

abbrev pub invariant-dim_tests::copy_tests-loop-test : goal.invariant-dim_tests::copy_tests-loop-test
invariant-dim_tests::copy_tests-loop-test l = l.copies ≡ take l.test-index l.tests
