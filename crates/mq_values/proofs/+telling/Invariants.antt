use Rattle.std.proofs.Common.{◌≡◌, drop, map}
use Rattle.mq_values.specs.DimTests as spec
use Rattle.mq_values.specs.Truth.{both, either}
use Rattle.mq_values.proofs.+telling.Given as goal

abbrev pub invariant-dim_tests::told_by_all-loop-test :
    goal.invariant-dim_tests::told_by_all-loop-test
invariant-dim_tests::told_by_all-loop-test l = both l.so_far (spec.all_hold (map (spec.told l.v) (drop l.test-index l.tests))) ≡ spec.all_hold (map (spec.told l.v) l.tests)

abbrev pub invariant-dim_tests::told_by_any-loop-test :
    goal.invariant-dim_tests::told_by_any-loop-test
invariant-dim_tests::told_by_any-loop-test l = either l.so_far (spec.any_holds (map (spec.told l.v) (drop l.test-index l.tests))) ≡ spec.any_holds (map (spec.told l.v) l.tests)
