use Rattle.mq_session_laws.proofs.ScenarioLemmas.{others_play_no_part}
use Rattle.mq_session_laws.proofs.comparisons.other_scenarios_play_no_part.Goals as goal

pub returns : goal.returns
returns c = others_play_no_part
