use Rattle.std.proofs.Common.{◌≡◌}
use Rattle.mq_bind_expr.specs.PlaceLaws.{tests_all}
use Rattle.mq_bind_expr.proofs.place_tests.+condition_tests.Given as goal

abbrev pub invariant-tests_of-es : goal.invariant-tests_of-es
invariant-tests_of-es l = l.tests ≡ tests_all l.yielded
