use Rattle.std.proofs.Common.{◌≡◌, length}
use Rattle.mq_ir.specs.Ready.{HaveLength}
use Rattle.mq_ir.specs.Unfolding.{model_of}
use Rattle.mq_auto_shape.specs.Walk.{rule_grown}
use Rattle.mq_ir.specs.StepLaws.{Numbered}
use Rattle.mq_auto_shape.proofs.rules.grow_rules.Given as goal

abbrev pub invariant-rules : goal.invariant-rules
invariant-rules l = record {
  counted : l.number ≡ l.rule-index;
  turned : Numbered (rule_grown (model_of l.m)) l.fn.growth (model_of l.m).part.rules l.rule-index l.growth;
  wide : HaveLength (length l.m.part.now.dims) l.growth.set;
}
