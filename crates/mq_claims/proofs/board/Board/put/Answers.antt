use Rattle.std.proofs.Common.{rules}
use Rattle.mq_claims.proofs.PutLemmas.{puts}
use Rattle.mq_claims.proofs.board.Board.put.Goals as goal

pub fetch_add-requires : goal.fetch_add-requires
fetch_add-requires g c = (search rules, search rules, puts _ _ _ c.args.k _ c.args.piece (search rules) (search rules) (search rules))
