use Rattle.std.proofs.Common.{◌≡◌, [], length}
use Rattle.mq_levels.specs.Numbers.{AreNumbered}
use Rattle.mq_levels.specs.Places.{ArePlaced}
use Rattle.mq_levels.specs.Rounds.{AllMoving}
use Rattle.mq_levels.proofs.rounds.run_rounds.Given as goal

abbrev pub invariant-loop-number : goal.invariant-loop-number
invariant-loop-number g l =
    (length l.waiters ≡ length (g.R.Reads.reads l.reads)) ×
    (ArePlaced (g.R.Reads.reads l.reads) (g.R.Reads.is_place l.reads) (g.R.Reads.left l.reads) l.numbers l.places ×
    (AreNumbered (g.R.Reads.reads l.reads) l.number l.numbers ×
    AllMoving (g.R.Reads.reads l.reads) l.number l.numbers l.waiters [] l.ready.items))
