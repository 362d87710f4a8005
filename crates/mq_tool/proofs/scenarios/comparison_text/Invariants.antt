use Rattle.mq_tool.proofs.CompareLemmas.{ComparedSoFar}
use Rattle.mq_tool.proofs.scenarios.comparison_text.Given as goal

abbrev pub invariant-scenarios : goal.invariant-scenarios
invariant-scenarios l = ComparedSoFar l.names l.found l.at l.initial.out.items l.out.items l.flaw
