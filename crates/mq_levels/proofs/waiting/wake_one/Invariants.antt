use Rattle.std.proofs.Common.{◌≡◌, ◌∷◌, ℕ, List, length}
use Rattle.mq_levels.specs.Numbers.{AreNumbered}
use Rattle.mq_levels.specs.Places.{ArePlaced}
use Rattle.mq_levels.specs.Rounds.{AllMoving}
use Rattle.mq_levels.specs.Waiting.{waiters_of}
use Rattle.mq_levels.proofs.waiting.wake_one.Given as goal

abbrev pub invariant-loop-node : goal.invariant-loop-node
invariant-loop-node g l =
    (length l.waiters ≡ length l.initial.waiters) ×
    (ArePlaced (g.R.Reads.reads l.reads) (g.R.Reads.is_place l.reads) (g.R.Reads.left l.reads) l.numbers l.places ×
    ((n : ℕ) (others : List ℕ) → AreNumbered (g.R.Reads.reads l.reads) n l.numbers →
    AllMoving (g.R.Reads.reads l.reads) n l.numbers l.initial.waiters (l.read ∷ others) l.initial.ready.items →
    AllMoving (g.R.Reads.reads l.reads) n l.numbers l.waiters (l.read ∷ others) l.ready.items))

abbrev pub decreases-loop-node : goal.decreases-loop-node
decreases-loop-node g l = length (waiters_of l.waiters l.read)
