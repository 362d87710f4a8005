use Rattle.std.proofs.Common.{◌≡◌, true, take}
use Rattle.std.specs.List.{list_all, zip}
use Rattle.mq_delta_base.specs.Moves.{has_place}
use Rattle.mq_delta_base.proofs.staying.stays_whole.Given as goal

abbrev pub invariant-items : goal.invariant-items
invariant-items l = list_all (has_place l.moves.places) (take l.item (zip l.changed l.tuple)) ≡ true
