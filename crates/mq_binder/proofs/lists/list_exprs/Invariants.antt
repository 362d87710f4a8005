use Rattle.std.proofs.Common.{◌≡◌}
use Rattle.mq_binder.specs.ListWalk.{list_exprs}
use Rattle.mq_binder.proofs.lists.list_exprs.Given as goal

abbrev pub invariant-items : goal.invariant-items
invariant-items l = l.es ≡ list_exprs l.yielded
