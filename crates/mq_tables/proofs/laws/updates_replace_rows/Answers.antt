use Rattle.mq_tables.proofs.PuttingBackLemmas.{updates_replace}
use Rattle.mq_tables.proofs.laws.updates_replace_rows.Goals as goal

pub returns : goal.returns
returns c = updates_replace
