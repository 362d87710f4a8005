use Rattle.mq_group.specs.Members.{member_found}
use Rattle.mq_group.proofs.TakingLemmas.{Taking}
use Rattle.mq_group.proofs.members.aggregated.Given as goal

abbrev pub invariant-loop-place : goal.invariant-loop-place
invariant-loop-place g l = Taking (member_found g.R.RowValues.values l.rows l.e) l.group l.fn.agg l.place-index l.aggregation
