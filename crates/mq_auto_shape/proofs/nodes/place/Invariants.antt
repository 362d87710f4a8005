use Rattle.std.proofs.Common.{◌≡◌, ◌++◌, length, reverse}
use Rattle.mq_auto_shape.specs.Walk.{AreBefore}
use Rattle.mq_auto_shape.proofs.nodes.place.Given as goal

abbrev pub invariant-back : goal.invariant-back
invariant-back l = l.before.items ++ reverse l.behind.items ≡ l.fn.before.items ++ reverse l.fn.behind.items

abbrev pub decreases-back : goal.decreases-back
decreases-back l = length l.before.items

abbrev pub invariant-forth : goal.invariant-forth
invariant-forth l = record {
  line : l.before.items ++ reverse l.behind.items ≡ l.fn.before.items ++ reverse l.fn.behind.items;
  before : AreBefore l.node l.before.items;
}

abbrev pub decreases-forth : goal.decreases-forth
decreases-forth l = length l.behind.items
