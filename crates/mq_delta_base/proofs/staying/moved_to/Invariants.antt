use Rattle.std.proofs.Common.{◌≡◌, map, take}
use Rattle.std.specs.List.{zip}
use Rattle.mq_delta_base.specs.Moves.{place_of}
use Rattle.mq_delta_base.proofs.staying.moved_to.Given as goal

abbrev pub invariant-items : goal.invariant-items
invariant-items l = l.moved.items ≡ map (place_of l.moves.places) (take l.item (zip l.changed l.tuple))
