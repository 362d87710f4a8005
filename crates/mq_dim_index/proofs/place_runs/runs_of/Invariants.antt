use Rattle.std.proofs.Common.{◌≡◌, ℕ, ◌++◌, drop}
use Rattle.mq_dim_index.specs.PlaceRuns.{AreRuns, RisesFrom, numbers_of}
use Rattle.mq_dim_index.proofs.place_runs.runs_of.Given as goal

-- the places so far, and those that are left
abbrev pub invariant-loop-place : goal.invariant-loop-place
invariant-loop-place l = record {
  found : numbers_of l.runs.items ++ drop l.place-index l.places ≡ l.places;
  apart : (m : ℕ) × AreRuns 0 m l.runs.items × RisesFrom m l.count (drop l.place-index l.places);
}
