use Rattle.std.proofs.Common.{◌≡◌, Option, take}
use Rattle.std.specs.List.{filter_map}
use Rattle.mq_ir.specs.declared.expression.Expr.{Expr}
use Rattle.mq_join.proofs.conditions.conditions_of.Given as goal

abbrev pub invariant-ons : goal.invariant-ons
invariant-ons l = l.conditions ≡ filter_map (λ (on : Option Expr). on) (take l.on-index l.q.ons)
