use Rattle.std.proofs.Common.{drop}
use Rattle.std.specs.List.{All}
use Rattle.mq_join.specs.Deciding.{IsDecider, Reached}
use Rattle.mq_join.proofs.deciders.deciders_of.Given as goal

abbrev pub invariant-conditions : goal.invariant-conditions
invariant-conditions l = record {
  reached : Reached l.conditions (drop l.condition-index l.conditions);
  deciders : All (IsDecider l.conditions) l.deciders.items;
}
