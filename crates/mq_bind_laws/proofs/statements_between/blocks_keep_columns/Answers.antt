use Rattle.mq_bind_laws.proofs.OutcomeLemmas.{block_goes_on}
use Rattle.mq_bind_laws.proofs.statements_between.blocks_keep_columns.Goals as goal

pub returns : goal.returns
returns c = block_goes_on
