use Rattle.std.proofs.Common.{◌≡◌, [], None, length, replicate}
use Rattle.mq_levels.specs.Rounds.{FirstMoving}
use Rattle.mq_levels.proofs.waiting.begin.Given as goal

abbrev pub invariant-loop-node : goal.invariant-loop-node
invariant-loop-node g l =
    (length l.waiters ≡ length l.initial.waiters) ×
    FirstMoving (g.R.Reads.reads l.reads) 0 (replicate (length (g.R.Reads.reads l.reads)) None) l.node l.waiters [] l.ready.items
