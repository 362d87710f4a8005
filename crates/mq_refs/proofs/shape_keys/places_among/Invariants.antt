use Rattle.std.proofs.Common.{◌≡◌, ◌++◌, drop}
use Rattle.mq_dim_index.specs.Places.{places_from, places_meeting}
use Rattle.mq_refs.proofs.shape_keys.places_among.Given as goal

-- the numbers so far, and those of the keys that are left
abbrev pub invariant-loop-key : goal.invariant-loop-key
invariant-loop-key l = record {
  counted : l.place ≡ l.key-index;
  found : l.places.items ++ places_from l.place l.tests (drop l.key-index l.keys) ≡ places_meeting l.tests l.keys;
}
