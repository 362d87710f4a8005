use Rattle.std.specs.List.Sorted.{IsStrictlySortedBy}
use Rattle.mq_refs.proofs.references.cells_of.Goals as goal

-- no cells ascend
pub returns-in-None-clause-ascending : goal.returns-in-None-clause-ascending
unfolding IsStrictlySortedBy
returns-in-None-clause-ascending c = λ all. tt
