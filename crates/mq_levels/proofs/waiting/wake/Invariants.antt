use Rattle.std.proofs.Common.{◌≡◌, [], length, take}
use Rattle.mq_levels.specs.Places.{ArePlaced}
use Rattle.mq_levels.specs.Rounds.{AreWoken}
use Rattle.mq_levels.proofs.waiting.wake.Given as goal

abbrev pub invariant-loop-node : goal.invariant-loop-node
invariant-loop-node g l =
    (length l.waiters ≡ length l.initial.waiters) ×
    (ArePlaced (g.R.Reads.reads l.reads) (g.R.Reads.is_place l.reads) (g.R.Reads.left l.reads) l.numbers l.places ×
    AreWoken (g.R.Reads.reads l.reads) l.numbers (take l.node-index l.nodes) l.initial.waiters l.waiters [] l.ready.items)
