use Rattle.std.proofs.Common.{◌∙◌}
use Rattle.std.proofs.Math.Seq.{map-set_same}
use Rattle.std.proofs.lemmas.List.Elements.{All-set}
use Rattle.mq_ir.specs.Unfolding.{model_of}
use Rattle.mq_kept.specs.declared.kept_view.KeptPart.{KeptPart}
use Rattle.mq_kept.specs.Kept.{IsRight}
use Rattle.mq_kept.proofs.settling.settle_all.Goals as goal

pub returns-in_err-last-clause-same_inputs : goal.returns-in_err-last-clause-same_inputs
returns-in_err-last-clause-same_inputs g c =
    map-set_same (λ (part : KeptPart). part.input) c.loop-part.parts c.loop-part.part-index c.settle_after.new.part c.part-item.result c.settle_after.ensures.same_input
    ∙ c.loop-part.invariant.same

pub returns-in_err-last-clause-right : goal.returns-in_err-last-clause-right
returns-in_err-last-clause-right g c =
    All-set (IsRight (model_of c.args.m.now)) c.loop-part.parts c.loop-part.part-index c.settle_after.new.part c.settle_after.ensures.right c.loop-part.invariant.right

pub returns-then-comes_to_fault-clause-same_inputs : goal.returns-then-comes_to_fault-clause-same_inputs
returns-then-comes_to_fault-clause-same_inputs g c =
    map-set_same (λ (part : KeptPart). part.input) c.loop-part.parts c.loop-part.part-index c.settle_after.new.part c.part-item.result c.settle_after.ensures.same_input
    ∙ c.loop-part.invariant.same

pub returns-then-comes_to_fault-clause-right : goal.returns-then-comes_to_fault-clause-right
returns-then-comes_to_fault-clause-right g c =
    All-set (IsRight (model_of c.args.m.now)) c.loop-part.parts c.loop-part.part-index c.settle_after.new.part c.settle_after.ensures.right c.loop-part.invariant.right

pub loop-part-preserved : goal.loop-part-preserved
loop-part-preserved g c = record {
  right = All-set (IsRight (model_of c.args.m.now)) c.loop-part.parts c.loop-part.part-index c.settle_after.new.part c.settle_after.ensures.right c.loop-part.invariant.right;
  same =
      map-set_same (λ (part : KeptPart). part.input) c.loop-part.parts c.loop-part.part-index c.settle_after.new.part c.part-item.result c.settle_after.ensures.same_input
      ∙ c.loop-part.invariant.same;
  last = c.in_ok-last.ensures.last;
}
