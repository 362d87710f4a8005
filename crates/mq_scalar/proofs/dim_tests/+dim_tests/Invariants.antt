use Rattle.std.proofs.Common.{◌≡◌}
use Rattle.mq_ir.specs.Tests.{test_of}
use Rattle.mq_scalar.specs.WalkLaws.{Walked}
use Rattle.mq_scalar.proofs.dim_tests.+dim_tests.Given as goal

abbrev pub invariant-tests_of-loop-test : goal.invariant-tests_of-loop-test
invariant-tests_of-loop-test g l = record {
  same : g.V.Env.gives l.env ≡ g.V.Env.gives l.fn.env;
  walked : Walked (test_of (g.V.Env.gives l.fn.env) l.kind) l.tests l.test-index l.evaluated;
}
