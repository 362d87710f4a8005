use Rattle.std.proofs.Common.{◌≡◌}
use Rattle.mq_bind_expr.proofs.founds.on_heap.Given as goal

abbrev pub invariant-loop-f : goal.invariant-loop-f
invariant-loop-f g l = l.held ≡ l.yielded
