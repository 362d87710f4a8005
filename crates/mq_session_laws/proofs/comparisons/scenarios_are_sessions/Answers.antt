use Rattle.mq_session_laws.proofs.ScenarioLemmas.{scenario_is_session}
use Rattle.mq_session_laws.proofs.comparisons.scenarios_are_sessions.Goals as goal

pub returns : goal.returns
returns c = scenario_is_session
