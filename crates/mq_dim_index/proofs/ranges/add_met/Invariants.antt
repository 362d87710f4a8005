use Rattle.std.proofs.Common.{◌≡◌, ◌++◌, drop}
use Rattle.mq_dim_index.specs.PlaceRuns.{AreRuns, numbers_of}
use Rattle.mq_dim_index.specs.Places.{places_from}
use Rattle.mq_dim_index.proofs.ranges.add_met.Given as goal

-- the numbers so far, and those of the keys that are left
abbrev pub invariant-loop-at : goal.invariant-loop-at
invariant-loop-at l = record {
  found :
      numbers_of l.runs.items ++ places_from l.at l.tests (drop l.at l.keys)
      ≡ numbers_of l.initial.runs.items ++ places_from l.fn.run.start l.tests (drop l.fn.run.start l.keys);
  apart : AreRuns 0 l.at l.runs.items;
}
