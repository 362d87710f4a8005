use Rattle.mq_csvload.proofs.FitLemmas.{all_rows_fit}
use Rattle.mq_csvload.proofs.laws.loaded_rows_are_rows.Goals as goal

pub returns : goal.returns
returns c bytes schema = all_rows_fit bytes schema
