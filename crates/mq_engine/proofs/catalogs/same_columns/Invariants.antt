use Rattle.std.proofs.Common.{◌≡◌, take}
use Rattle.mq_engine.proofs.catalogs.same_columns.Given as goal

abbrev pub invariant-loop-col : goal.invariant-loop-col
invariant-loop-col l = l.copies ≡ take l.col-index l.cols
