use Rattle.std.proofs.Common.{take}
use Rattle.mq_join.specs.Deciding.{AllSeeBelow}
use Rattle.mq_join.proofs.sight.+sight.Given as goal

abbrev pub invariant-all_see_below-expressions : goal.invariant-all_see_below-expressions
invariant-all_see_below-expressions l = AllSeeBelow l.count (take l.e-index l.es)
