use Rattle.std.proofs.Common.{◌≡◌, take}
use Rattle.mq_engine.specs.Scenarios.{with_change}
use Rattle.mq_engine.proofs.scenarios.with_change.Given as goal

abbrev pub invariant-loop-scenario : goal.invariant-loop-scenario
invariant-loop-scenario l = l.after ≡ with_change (take l.scenario-index l.scenarios) l.name l.c
