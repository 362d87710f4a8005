use Rattle.std.proofs.Common.{◌≡◌, drop}
use Rattle.mq_targets.specs.Choice as choice
use Rattle.mq_targets.proofs.order.cmp_by.Given as goal

-- the columns so far find no difference
abbrev pub invariant-loop-column : goal.invariant-loop-column
invariant-loop-column l = choice.cmp_by (drop l.column-index l.order) l.a l.b ≡ choice.cmp_by l.order l.a l.b
