use Rattle.mq_delta_base.specs.Inverts.{Inverts}
use Rattle.mq_delta_base.proofs.moves.moves_of.Given as goal

abbrev pub invariant-rows : goal.invariant-rows
invariant-rows l = Inverts l.staged.origins l.to l.places l.touched
