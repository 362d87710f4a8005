use Rattle.std.proofs.Common.{◌≡◌, ℕ, None, length, ◌-◌}
use Rattle.std.specs.Prelude.{slice_index_or}
use Rattle.mq_cells.proofs.lane.Lane.reach.Given as goal

abbrev pub invariant-reaching : goal.invariant-reaching
invariant-reaching g l = (at : ℕ) → slice_index_or l.self-inside.items.items at None ≡ slice_index_or l.initial.self-inside.items.items at None

abbrev pub decreases-reaching : goal.decreases-reaching
decreases-reaching g l = l.count - length l.self-inside.items.items
