use Rattle.std.proofs.Common.{◌≡◌}
use Rattle.mq_ir.specs.Unfolding.{model_of}
use Rattle.mq_unfold.specs.FixedLefts.{AreFixed}
use Rattle.mq_seq.proofs.prepared.fixed_lefts.Given as goal

abbrev pub invariant-rules : goal.invariant-rules
invariant-rules l = record {
  counted : l.number ≡ l.rule-index;
  fixed_so_far : AreFixed (model_of l.m) l.fixed.items;
}
