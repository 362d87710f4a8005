use Rattle.std.proofs.Common.{rules}
use Rattle.mq_claims.proofs.ClaimLemmas.{claims}
use Rattle.mq_claims.proofs.board.Board.claim.Goals as goal

pub fetch_add-found-requires : goal.fetch_add-found-requires
fetch_add-found-requires g c = (search rules, search rules, claims _ _ _ _ c.requires.free.0 c.requires.free.1 c.requires.free.2)
