use Rattle.std.proofs.Common.{◌≡◌, map, take}
use Rattle.mq_join.specs.Rows.{places_in}
use Rattle.mq_delta_base.specs.Moves.{through}
use Rattle.mq_delta_base.proofs.blocks.places_through.Given as goal

abbrev pub invariant-rows : goal.invariant-rows
invariant-rows l = l.all ≡ record { width = l.width; rows = map (through l.item l.chosen) (map places_in (take l.at l.rows)) }
