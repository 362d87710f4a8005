use Rattle.std.proofs.Common.{rules}
use Rattle.mq_claims.proofs.SeatLemmas.{splits}
use Rattle.mq_claims.proofs.board.Board.split.Goals as goal

pub split_seat-requires : goal.split_seat-requires
split_seat-requires g c = (search rules, search rules, splits _ _ _ c.requires.left.0 c.requires.left.1)
