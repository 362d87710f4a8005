use Rattle.std.proofs.Common.{◌≡◌}
use Rattle.mq_ir.specs.Expression.{ev}
use Rattle.mq_scalar.specs.WalkLaws.{Walked}
use Rattle.mq_group.proofs.evaluation.evaluated.Given as goal

-- no call changes what a leaf is worth
abbrev pub invariant-loop-e : goal.invariant-loop-e
invariant-loop-e g l = record {
  walk : Walked (ev (g.V.Env.gives l.fn.env)) l.es l.e-index l.values;
  same : g.V.Env.gives l.env ≡ g.V.Env.gives l.fn.env;
}
