use Rattle.std.proofs.Common.{◌≡◌, ◌≤◌, ◌-◌, ◌++◌, drop, length}
use Rattle.mq_dim_index.specs.Found.{noted}
use Rattle.mq_dim_index.proofs.ranges.places_by_map.Given as goal

-- the numbers so far, and those of the keys that are left
abbrev pub invariant-rows : goal.invariant-rows
invariant-rows l = record {
  within : l.from ≤ length l.map.keys;
  found : l.places.items ++ noted l.tests l.keys (drop l.from l.map.keys) ≡ noted l.tests l.keys l.map.keys;
}

abbrev pub decreases-rows : goal.decreases-rows
decreases-rows l = length l.map.keys - l.from
