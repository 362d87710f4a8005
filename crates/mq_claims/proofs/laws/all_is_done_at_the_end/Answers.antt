use Rattle.mq_claims.proofs.LawLemmas.{all_is_done}
use Rattle.mq_claims.proofs.laws.all_is_done_at_the_end.Goals as goal

pub returns : goal.returns
returns g c = all_is_done _
