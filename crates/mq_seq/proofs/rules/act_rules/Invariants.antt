use Rattle.std.proofs.Common.{◌≡◌}
use Rattle.mq_ir.specs.Unfolding.{model_of}
use Rattle.mq_seq.specs.Steps.{rule_done}
use Rattle.mq_ir.specs.StepLaws.{Numbered}
use Rattle.mq_seq.proofs.rules.act_rules.Given as goal

abbrev pub invariant-rules : goal.invariant-rules
invariant-rules l = record {
  counted : l.number ≡ l.rule-index;
  turned : Numbered (rule_done (model_of l.m) l.turn) l.fn.grid (model_of l.m).part.rules l.rule-index l.grid;
  same_width : l.grid.width ≡ l.fn.grid.width;
}
