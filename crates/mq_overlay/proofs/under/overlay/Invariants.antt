use Rattle.mq_ir.specs.Scenarios.{numbered_change}
use Rattle.mq_ir.specs.StepLaws.{Numbered}
use Rattle.mq_overlay.proofs.under.overlay.Given as goal

abbrev pub invariant-changes : goal.invariant-changes
invariant-changes l = Numbered numbered_change l.tables l.changes l.at l.under
