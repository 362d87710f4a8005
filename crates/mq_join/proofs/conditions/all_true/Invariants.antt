use Rattle.std.proofs.Common.{◌≡◌, drop}
use Rattle.mq_ir.specs.BaseRows.{all_true}
use Rattle.mq_join.proofs.conditions.all_true.Given as goal

abbrev pub invariant-conditions : goal.invariant-conditions
invariant-conditions g l = record {
  same : g.V.Env.gives l.env ≡ g.V.Env.gives l.fn.env;
  meant : all_true (g.V.Env.gives l.fn.env) (drop l.condition-index l.conditions) ≡ all_true (g.V.Env.gives l.fn.env) l.conditions;
}
