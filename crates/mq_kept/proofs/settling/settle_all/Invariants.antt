use Rattle.std.proofs.Common.{◌≡◌}
use Rattle.std.specs.List.{All}
use Rattle.mq_ir.specs.Unfolding.{model_of}
use Rattle.mq_kept.specs.Kept.{IsRight, IsServing, inputs_of}
use Rattle.mq_kept.proofs.settling.settle_all.Given as goal

abbrev pub invariant-loop-part : goal.invariant-loop-part
invariant-loop-part g l = record {
  right : All (IsRight (model_of l.fn.m)) l.parts;
  same : inputs_of l.parts ≡ inputs_of l.fn.parts;
  last : IsServing (model_of l.fn.m) l.last;
}
