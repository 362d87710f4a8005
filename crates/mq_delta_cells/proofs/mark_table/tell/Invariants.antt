use Rattle.std.proofs.Common.{◌≡◌, ℕ, false, length, ◌+◌, ◌-◌}
use Rattle.std.specs.Prelude.{slice_index_or}
use Rattle.mq_delta_cells.proofs.mark_table.tell.Given as goal

abbrev pub invariant-reaching : goal.invariant-reaching
invariant-reaching l = (j : ℕ) → slice_index_or l.measures.items j false ≡ slice_index_or l.fn.measures.items j false

abbrev pub decreases-reaching : goal.decreases-reaching
decreases-reaching l = l.m + 1 - length l.measures.items
