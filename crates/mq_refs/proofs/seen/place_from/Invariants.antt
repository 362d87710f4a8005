use Rattle.std.proofs.Common.{◌≡◌, drop}
use Rattle.mq_cells.specs.Stores.{cell_name}
use Rattle.mq_refs.specs.Sightings.{value_seen}
use Rattle.mq_refs.proofs.seen.place_from.Given as goal

abbrev pub invariant-loop-at : goal.invariant-loop-at
invariant-loop-at l = value_seen (drop l.from l.sightings) (cell_name l.key l.measure) ≡ value_seen (drop l.at l.sightings) (cell_name l.key l.measure)
