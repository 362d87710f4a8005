use Rattle.mq_session_laws.proofs.BlockLemmas.{broken_block_is_nothing}
use Rattle.mq_session_laws.proofs.blocks.broken_blocks_come_to_nothing.Goals as goal

pub returns : goal.returns
returns c = broken_block_is_nothing
