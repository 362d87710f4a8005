use Rattle.std.proofs.Common.{◌≡◌, ℕ, [], length, ◌+◌, ◌-◌}
use Rattle.std.specs.Prelude.{slice_index_or}
use Rattle.mq_delta_cells.proofs.mark_table.reach.Given as goal

abbrev pub invariant-reaching : goal.invariant-reaching
invariant-reaching l = (j : ℕ) → slice_index_or l.flags.items j [] ≡ slice_index_or l.fn.flags.items j []

abbrev pub decreases-reaching : goal.decreases-reaching
decreases-reaching l = l.m + 1 - length l.flags.items
