use Rattle.std.proofs.Common.{◌≡◌, map, take}
use Rattle.mq_ir.specs.Scenarios.{compared}
use Rattle.mq_engine.specs.Scenarios.{changes_under}
use Rattle.mq_engine.proofs.scenarios.compared_beside_each.Given as goal

abbrev pub invariant-loop-name : goal.invariant-loop-name
invariant-loop-name g l = l.found.items ≡ map (λ name. compared l.tables l.q (changes_under l.scenarios name)) (take l.name-index l.names)
