use Rattle.mq_session_laws.proofs.BlockLemmas.{block_is_its_changes}
use Rattle.mq_session_laws.proofs.blocks.blocks_come_to_their_changes.Goals as goal

pub returns : goal.returns
returns c = block_is_its_changes
