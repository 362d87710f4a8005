use Rattle.std.proofs.Common.{◌≡◌}
use Rattle.mq_ir.specs.Expression.{ev}
use Rattle.mq_scalar.specs.WalkLaws.{Walked}
use Rattle.mq_scalar.proofs.dim_tests.values_of.Given as goal

abbrev pub invariant-loop-e : goal.invariant-loop-e
invariant-loop-e g l = record {
  same : g.V.Env.gives l.env ≡ g.V.Env.gives l.fn.env;
  walked : Walked (ev (g.V.Env.gives l.fn.env)) l.es l.e-index l.values;
}
