use Rattle.mq_ir.proofs.ConvertLemmas.{converts_once}
use Rattle.mq_ir.proofs.laws_of_rows.values_convert_once.Goals as goal

pub returns : goal.returns
returns c = converts_once
