use Rattle.std.proofs.Common.{◌≡◌, ◌≤◌, ◌-◌, ◌++◌, drop, length}
use Rattle.mq_dim_index.specs.PlaceRuns.{AreRuns, numbers_of}
use Rattle.mq_dim_index.specs.Places.{places_from, places_meeting}
use Rattle.mq_dim_index.proofs.ranges.runs_in_order.Given as goal

-- the numbers so far, and those of the keys that are left
abbrev pub invariant-rows : goal.invariant-rows
invariant-rows l = record {
  within : l.from ≤ length l.keys;
  found : numbers_of l.runs.items ++ places_from l.from l.tests (drop l.from l.keys) ≡ places_meeting l.tests l.keys;
  apart : AreRuns 0 l.from l.runs.items;
}

abbrev pub decreases-rows : goal.decreases-rows
decreases-rows l = length l.keys - l.from
