use Rattle.std.proofs.Common.{◌≡◌, ◌++◌}
use Rattle.mq_binder.proofs.models.push_all.Given as goal

abbrev pub invariant-more : goal.invariant-more
invariant-more l = l.items ≡ l.initial.items ++ l.yielded
