use Rattle.std.proofs.Common.{◌≡◌, ℕ, [], length, ◌+◌, ◌-◌}
use Rattle.std.specs.Prelude.{slice_index_or}
use Rattle.mq_cells.proofs.lanes.reach.Given as goal

abbrev pub invariant-reaching : goal.invariant-reaching
invariant-reaching g l = (j : ℕ) → slice_index_or l.lanes.items j [] ≡ slice_index_or l.fn.lanes.items j []

abbrev pub decreases-reaching : goal.decreases-reaching
decreases-reaching g l = l.m + 1 - length l.lanes.items
