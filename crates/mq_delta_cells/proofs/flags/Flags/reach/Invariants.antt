use Rattle.std.proofs.Common.{length, ◌+◌, ◌-◌}
use Rattle.mq_delta_cells.specs.Marks.{SameFlags}
use Rattle.mq_delta_cells.proofs.flags.Flags.reach.Given as goal

abbrev pub invariant-reaching : goal.invariant-reaching
invariant-reaching l = SameFlags l.initial.self-inside.items.items l.self-inside.items.items

abbrev pub decreases-reaching : goal.decreases-reaching
decreases-reaching l = l.at + 1 - length l.self-inside.items.items
