use Rattle.std.proofs.Common.{◌≡◌, ◌≤◌, ◌++◌, length, drop}
use Rattle.mq_values.specs.Order.{cmp_key}
use Rattle.mq_ir.specs.Partitions.{ascending}
use Rattle.mq_auto_shape.proofs.growth.with_keys.Given as goal

abbrev pub invariant-placing : goal.invariant-placing
invariant-placing l = record {
  within : l.at ≤ length l.keys;
  set : l.index ≡ ascending cmp_key (drop l.at l.keys ++ l.fn.index);
}

abbrev pub decreases-placing : goal.decreases-placing
decreases-placing l = l.at
