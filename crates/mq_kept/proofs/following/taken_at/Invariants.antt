use Rattle.std.proofs.Common.{vec_len}
use Rattle.std.specs.List.{All}
use Rattle.mq_ir.specs.Unfolding.{Model}
use Rattle.mq_kept.specs.Kept.{IsRight}
use Rattle.mq_kept.proofs.following.taken_at.Given as goal

abbrev pub invariant-passing : goal.invariant-passing
invariant-passing l = (model : Model) → All (IsRight model) l.fn.left.items → All (IsRight model) l.left.items

abbrev pub decreases-passing : goal.decreases-passing
decreases-passing l = vec_len l.left
