use Rattle.std.proofs.Common.{◌≤◌, length}
use Rattle.mq_join.specs.Indexed.{IsChained}
use Rattle.mq_join.proofs.indexes.index_of.Given as goal

abbrev pub invariant-rows : goal.invariant-rows
invariant-rows l = record {
  within : l.place ≤ length l.rows;
  chained : IsChained l.rows l.column l.place l.heads l.next.items;
}

abbrev pub decreases-rows : goal.decreases-rows
decreases-rows l = l.place
