use Rattle.std.proofs.Common.{◌≤◌, drop, length}
use Rattle.mq_lineage.specs.Rules.{HasRulesIn}
use Rattle.mq_lineage.proofs.rules.rules_in.Given as goal

abbrev pub invariant-assigned : goal.invariant-assigned
invariant-assigned l = (l.left ≤ length l.assigned) × HasRulesIn (drop l.left l.assigned) l.rules

abbrev pub decreases-assigned : goal.decreases-assigned
decreases-assigned l = l.left
