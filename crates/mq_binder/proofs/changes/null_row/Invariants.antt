use Rattle.std.proofs.Common.{◌≡◌, map, take}
use Rattle.mq_binder.specs.RowPlaces.{null_of}
use Rattle.mq_binder.proofs.changes.null_row.Given as goal

abbrev pub invariant-columns : goal.invariant-columns
invariant-columns l = l.row ≡ map null_of (take l.c-index l.columns)
