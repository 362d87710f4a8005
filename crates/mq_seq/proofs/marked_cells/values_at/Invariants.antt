use Rattle.std.proofs.Common.{◌≡◌}
use Rattle.std.specs.Prelude.{slice_index_or}
use Rattle.mq_cells.specs.IndexedStores.{keys_in}
use Rattle.mq_ir.specs.Keys.{Tuple}
use Rattle.mq_seq.specs.Shown.{values_over}
use Rattle.mq_seq.proofs.marked_cells.values_at.Given as goal

abbrev pub invariant-measures : goal.invariant-measures
invariant-measures l = (other : Tuple) → l.values ≡ values_over l.store (slice_index_or (keys_in l.store) l.at other) l.m
