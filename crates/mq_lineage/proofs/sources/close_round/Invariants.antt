use Rattle.mq_ir.specs.Unfolding.{model_of}
use Rattle.mq_lineage.proofs.ClosingLemmas.{RoundClosed}
use Rattle.mq_lineage.proofs.sources.close_round.Given as goal

abbrev pub invariant-places : goal.invariant-places
invariant-places g l = RoundClosed (model_of l.m) l.s l.round l.left l.fn.found l.found

abbrev pub decreases-places : goal.decreases-places
decreases-places g l = l.left
