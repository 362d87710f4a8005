use Rattle.mq_scalar.specs.WalkLaws.{Walked}
use Rattle.mq_group.specs.Members.{group_found}
use Rattle.mq_group.proofs.evaluation.group_items.Given as goal

abbrev pub invariant-loop-group : goal.invariant-loop-group
invariant-loop-group g l = Walked (group_found g.R.RowValues.values l.cols l.rows l.items) l.groups l.group-index l.found
