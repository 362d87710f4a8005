use Rattle.std.proofs.Common.{◌≡◌, ◌+◌, length}
use Rattle.mq_lexer.specs.Pieces.{comment_end}
use Rattle.mq_lexer.proofs.PlaceLemmas.{from_place}
use Rattle.mq_lexer.proofs.pieces.comment_end.Given as goal

abbrev pub invariant-loop-z : goal.invariant-loop-z
invariant-loop-z l =
    (from_place l.at (comment_end l.z) ≡ comment_end l.initial.z) × (l.at + length l.z ≡ length l.initial.z)

abbrev pub decreases-loop-z : goal.decreases-loop-z
decreases-loop-z l = length l.z
