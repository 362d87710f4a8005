use Rattle.std.proofs.Common.{◌≡◌, ◌≤◌, length, drop}
use Rattle.std.specs.Option.{option_copied}
use Rattle.mq_ir.specs.Shape.{least_of}
use Rattle.mq_auto_shape.proofs.least.least.Given as goal

-- the least of those that were looked at
abbrev pub invariant-looking : goal.invariant-looking
invariant-looking g l = record {
  within : l.at ≤ length l.items;
  found : option_copied l.least ≡ least_of g.T.Ord.cmp (drop l.at l.items);
}

abbrev pub decreases-looking : goal.decreases-looking
decreases-looking g l = l.at
