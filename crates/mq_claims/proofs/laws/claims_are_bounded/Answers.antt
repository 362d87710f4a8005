use Rattle.mq_claims.proofs.LawLemmas.{claims_are_bounded}
use Rattle.mq_claims.proofs.laws.claims_are_bounded.Goals as goal

pub returns : goal.returns
returns g c = claims_are_bounded _
