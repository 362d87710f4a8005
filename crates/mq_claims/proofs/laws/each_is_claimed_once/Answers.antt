use Rattle.mq_claims.proofs.LawLemmas.{each_is_claimed_once}
use Rattle.mq_claims.proofs.laws.each_is_claimed_once.Goals as goal

pub returns : goal.returns
returns g c = each_is_claimed_once _
