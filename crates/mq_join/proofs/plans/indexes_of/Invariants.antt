use Rattle.std.proofs.Common.{◌≡◌, length}
use Rattle.mq_join.specs.Passing.{IndexesServe}
use Rattle.mq_join.proofs.plans.indexes_of.Given as goal

abbrev pub invariant-items : goal.invariant-items
invariant-items l = record {
  long : length l.indexes.items ≡ l.level;
  serve : IndexesServe l.deciders l.items l.indexes.items;
}
