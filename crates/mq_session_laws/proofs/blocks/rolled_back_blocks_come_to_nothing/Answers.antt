use Rattle.mq_session_laws.proofs.BlockLemmas.{rolled_back_block_is_nothing}
use Rattle.mq_session_laws.proofs.blocks.rolled_back_blocks_come_to_nothing.Goals as goal

pub returns : goal.returns
returns c = rolled_back_block_is_nothing
