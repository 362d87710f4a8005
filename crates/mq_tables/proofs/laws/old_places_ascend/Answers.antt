use Rattle.mq_tables.proofs.OldPlaceLemmas.{keeps_order}
use Rattle.mq_tables.proofs.laws.old_places_ascend.Goals as goal

pub returns : goal.returns
returns c = keeps_order
