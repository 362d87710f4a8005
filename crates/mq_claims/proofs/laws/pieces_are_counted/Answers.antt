use Rattle.mq_claims.proofs.LawLemmas.{pieces_are_counted}
use Rattle.mq_claims.proofs.laws.pieces_are_counted.Goals as goal

pub returns : goal.returns
returns g c = pieces_are_counted _
