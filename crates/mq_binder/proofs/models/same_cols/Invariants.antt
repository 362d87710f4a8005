use Rattle.std.proofs.Common.{◌≡◌, take}
use Rattle.mq_binder.proofs.models.same_cols.Given as goal

abbrev pub invariant-cols : goal.invariant-cols
invariant-cols l = l.copies ≡ take l.c-index l.cols
