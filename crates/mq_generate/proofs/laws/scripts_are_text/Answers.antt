use Rattle.mq_generate.proofs.TextLemmas.{script_text}
use Rattle.mq_generate.proofs.laws.scripts_are_text.Goals as goal

pub returns : goal.returns
returns c = script_text
