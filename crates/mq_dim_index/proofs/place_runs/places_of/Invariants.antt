use Rattle.std.proofs.Common.{◌≡◌, ◌++◌, drop}
use Rattle.mq_dim_index.specs.PlaceRuns.{numbers_of}
use Rattle.mq_dim_index.proofs.place_runs.places_of.Given as goal

-- the places so far, and those of the runs that are left
abbrev pub invariant-loop-run : goal.invariant-loop-run
invariant-loop-run l = l.places.items ++ numbers_of (drop l.run-index l.runs) ≡ numbers_of l.runs
