use Rattle.std.proofs.Common.{◌-◌, length}
use Rattle.mq_ast.specs.Prelude.{EndsList, MoreOf}
use Rattle.mq_parse_words.specs.StepLemmas.{SoFar}
use Rattle.mq_parse_query.proofs.lists.read_more.Given as goal

abbrev pub invariant-loop-behind : goal.invariant-loop-behind
invariant-loop-behind g l = SoFar (MoreOf g.P.Listed.reads) g.P.Listed.stop (EndsList g.P.Listed.stop) l.t l.fn.at l.to l.found

abbrev pub decreases-loop-behind : goal.decreases-loop-behind
decreases-loop-behind g l = length l.t - l.to
