use Rattle.std.proofs.Common.{◌≡◌, ◌+◌, ◌<◌, ◌≤◌, ◌++◌, length}
use Rattle.mq_claims.specs.declared.limits.TheConstants.{MAX_PIECES}
use Rattle.mq_answers.specs.Cuts.{joined}
use Rattle.mq_answers.proofs.cuts.cut.Given as goal

abbrev pub invariant-cuts : goal.invariant-cuts
invariant-cuts g l = (0 < l.count) × (length l.parts + l.count ≤ MAX_PIECES) × (l.left.items ++ joined l.parts ≡ l.fn.items)

abbrev pub decreases-cuts : goal.decreases-cuts
decreases-cuts g l = l.count
