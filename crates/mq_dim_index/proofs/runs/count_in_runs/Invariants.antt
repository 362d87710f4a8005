use Rattle.std.proofs.Common.{◌≤◌, ◌-◌, length}
use Rattle.mq_dim_index.proofs.runs.count_in_runs.Given as goal

abbrev pub invariant-rows : goal.invariant-rows
invariant-rows l = (l.count ≤ l.from) × (l.from ≤ length l.keys)

abbrev pub decreases-rows : goal.decreases-rows
decreases-rows l = length l.keys - l.from
