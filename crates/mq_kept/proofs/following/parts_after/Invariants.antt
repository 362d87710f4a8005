use Rattle.std.proofs.Common.{◌≡◌}
use Rattle.std.specs.List.{All}
use Rattle.mq_ir.specs.Unfolding.{model_of}
use Rattle.mq_kept.specs.Kept.{IsRight, inputs_of}
use Rattle.mq_kept.proofs.following.parts_after.Given as goal

abbrev pub invariant-loop-input : goal.invariant-loop-input
invariant-loop-input l =
    (inputs_of l.parts ≡ l.yielded) × (All (IsRight (model_of l.m)) l.parts × All (IsRight (model_of l.m)) l.left.items)
