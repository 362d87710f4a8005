use Rattle.std.proofs.Common.{◌≡◌, ◌++◌, drop}
use Rattle.mq_dim_index.specs.Found.{noted}
use Rattle.mq_dim_index.proofs.ranges.add_found.Given as goal

-- the numbers so far, and those of the keys that are left
abbrev pub invariant-loop-at : goal.invariant-loop-at
invariant-loop-at l =
    l.places.items ++ noted l.tests l.keys (drop l.at l.found) ≡ l.initial.places.items ++ noted l.tests l.keys (drop l.fn.run.start l.found)
