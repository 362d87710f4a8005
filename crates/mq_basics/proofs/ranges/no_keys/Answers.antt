use Rattle.std.specs.List.Sorted.{IsStrictlySortedBy}
use Rattle.mq_basics.proofs.ranges.no_keys.Goals as goal

-- no keys ascend
pub new-requires : goal.new-requires
unfolding IsStrictlySortedBy
new-requires c = tt
