use Rattle.std.proofs.Common.{◌≡◌, take}
use Rattle.mq_binder.proofs.models.same_columns.Given as goal

abbrev pub invariant-columns : goal.invariant-columns
invariant-columns l = l.copies ≡ take l.c-index l.columns
