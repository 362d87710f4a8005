use Rattle.std.proofs.Common.{◌≡◌, ◌++◌, ◌-◌}
use Rattle.std.specs.List.{range_with_len}
use Rattle.mq_dim_index.proofs.place_runs.add_places.Given as goal

-- the places so far, and those of the run that are left
abbrev pub invariant-loop-place : goal.invariant-loop-place
invariant-loop-place l =
    l.places.items ++ range_with_len l.place (l.fn.run.past - l.place) ≡ l.fn.places.items ++ range_with_len l.fn.run.first (l.fn.run.past - l.fn.run.first)
