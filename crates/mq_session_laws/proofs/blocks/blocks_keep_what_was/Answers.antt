use Rattle.mq_session_laws.proofs.BlockLemmas.{block_keeps_what_was}
use Rattle.mq_session_laws.proofs.blocks.blocks_keep_what_was.Goals as goal

pub returns : goal.returns
returns c = block_keeps_what_was
