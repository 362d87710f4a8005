use Rattle.mq_ir.specs.Unfolding.{model_of}
use Rattle.mq_cells.specs.IndexedStores.{results_of}
use Rattle.mq_lineage.proofs.AcceptLemmas.{Taken}
use Rattle.mq_lineage.proofs.checking.are_accepted.Given as goal

abbrev pub invariant-steps : goal.invariant-steps
invariant-steps l = Taken (model_of l.m) l.s l.input l.steps l.step-index (results_of l.cells)
