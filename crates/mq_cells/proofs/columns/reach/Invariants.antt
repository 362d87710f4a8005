use Rattle.std.proofs.Common.{◌≡◌, ◌+◌, ◌-◌, length}
use Rattle.mq_cells.specs.Columns.{results_in}
use Rattle.mq_cells.proofs.columns.reach.Given as goal

abbrev pub invariant-reaching : goal.invariant-reaching
invariant-reaching l = results_in l.columns.items ≡ results_in l.fn.columns.items

abbrev pub decreases-reaching : goal.decreases-reaching
decreases-reaching l = l.m + 1 - length l.columns.items
