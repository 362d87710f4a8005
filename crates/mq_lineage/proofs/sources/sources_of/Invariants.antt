use Rattle.mq_ir.specs.Unfolding.{model_of}
use Rattle.mq_lineage.proofs.ClosingLemmas.{RoundsClosed}
use Rattle.mq_lineage.proofs.sources.sources_of.Given as goal

abbrev pub invariant-rounds : goal.invariant-rounds
invariant-rounds g l = RoundsClosed (model_of l.m) l.s l.target l.rounds l.fn.places l.left l.found

abbrev pub decreases-rounds : goal.decreases-rounds
decreases-rounds g l = l.left
