use Rattle.std.proofs.Common.{◌≡◌, length, take}
use Rattle.mq_delta_base.specs.Moves.{survivors}
use Rattle.mq_delta_base.proofs.staying.survivors.Given as goal

abbrev pub invariant-rows : goal.invariant-rows
invariant-rows l = l.rows ≡ record { width = length l.changed; rows = survivors l.moves.places l.changed (take l.at l.old) }
