use Rattle.std.proofs.Common.{rules}
use Rattle.mq_claims.proofs.SeatLemmas.{joins, looks}
use Rattle.mq_claims.proofs.board.Board.join.Goals as goal

pub join_seat-requires : goal.join_seat-requires
join_seat-requires g c = (search rules, search rules, search rules, search rules, joins _ _ _ _ _ c.requires.first c.requires.finished.0 c.requires.finished.1)

pub load-requires : goal.load-requires
load-requires g c = (search rules, search rules, looks _ _ _ _)
