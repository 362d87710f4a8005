use Rattle.std.proofs.Common.{All, vec_len}
use Rattle.mq_workers.specs.Runs.{HasWorked, IsFirstDone}
use Rattle.mq_workers.proofs.seats.taken_back.Given as goal

abbrev pub invariant-lent : goal.invariant-lent
invariant-lent g l = IsFirstDone g.P.Piece.ran l.board l.first (vec_len l.lent) × All (HasWorked g.P.Piece.ran l.board) l.lent.items

abbrev pub decreases-lent : goal.decreases-lent
decreases-lent g l = vec_len l.lent
