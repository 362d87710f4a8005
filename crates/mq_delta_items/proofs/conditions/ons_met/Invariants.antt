use Rattle.std.proofs.Common.{◌≡◌, Option, drop}
use Rattle.std.specs.List.{filter_map}
use Rattle.mq_ir.specs.declared.expression.Expr.{Expr}
use Rattle.mq_ir.specs.BaseRows.{all_true}
use Rattle.mq_delta_items.proofs.conditions.ons_met.Given as goal

abbrev pub invariant-ons : goal.invariant-ons
invariant-ons g l = record {
  meant : all_true (g.V.Env.gives l.fn.env) (filter_map (λ (on : Option Expr). on) (drop l.on-index l.ons))
      ≡ all_true (g.V.Env.gives l.fn.env) (filter_map (λ (on : Option Expr). on) l.ons);
  same : g.V.Env.gives l.env ≡ g.V.Env.gives l.fn.env;
}
