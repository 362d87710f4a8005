use Rattle.mq_scalar.specs.WalkLaws.{Walked}
use Rattle.mq_sources.specs.References.{cells_of_arrays, reference_found}
use Rattle.mq_sources.proofs.arrays.references_over.Given as goal

abbrev pub invariant-loop-part : goal.invariant-loop-part
invariant-loop-part g l = Walked (reference_found (g.T.TableSet.tables l.tables)) l.parts l.part-index (cells_of_arrays l.arrays)
