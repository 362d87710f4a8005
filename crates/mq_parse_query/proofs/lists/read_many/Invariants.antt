use Rattle.std.proofs.Common.{◌-◌, length}
use Rattle.mq_ast.specs.Prelude.{ManyOf}
use Rattle.mq_parse_words.specs.StepLemmas.{SoFar}
use Rattle.mq_parse_query.proofs.ListLemmas.{Any}
use Rattle.mq_parse_query.proofs.lists.read_many.Given as goal

abbrev pub invariant-loop-found : goal.invariant-loop-found
invariant-loop-found g l = SoFar (ManyOf g.P.Repeated.reads) Any g.P.Repeated.end l.t l.fn.at l.to l.found

abbrev pub decreases-loop-found : goal.decreases-loop-found
decreases-loop-found g l = length l.t - l.to
