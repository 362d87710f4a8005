use Rattle.mq_binder.specs.LeftWalk.{left_place}
use Rattle.mq_binder.proofs.CarrySteps.{Counted}
use Rattle.mq_binder.proofs.left_sides.left_places.Given as goal

abbrev pub invariant-places : goal.invariant-places
invariant-places l = Counted (left_place l.catalog l.scope) l.fn.lists l.places l.n l.items l.gathered
