use Rattle.std.proofs.Common.{◌-◌, length}
use Rattle.mq_ast.specs.declared.levels.TheConstants as level
use Rattle.mq_ast.specs.Prelude.{ColE, EndsCols, MoreOf, Stops}
use Rattle.mq_parse_words.specs.StepLemmas.{SoFar}
use Rattle.mq_parse_stmt.proofs.create.read_more_cols.Given as goal

abbrev pub invariant-loop-behind : goal.invariant-loop-behind
invariant-loop-behind l = SoFar (MoreOf ColE) (Stops level.EXPRESSION) EndsCols l.t l.fn.at l.to l.found

abbrev pub decreases-loop-behind : goal.decreases-loop-behind
decreases-loop-behind l = length l.t - l.to
