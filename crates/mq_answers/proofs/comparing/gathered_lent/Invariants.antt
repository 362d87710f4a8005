use Rattle.std.proofs.Common.{◌≡◌, []}
use Rattle.std.specs.List.{All}
use Rattle.mq_ir.specs.Answer.{partition_step}
use Rattle.mq_ir.specs.Unfolding.{model_of}
use Rattle.mq_kept.specs.Kept.{IsRight, inputs_of}
use Rattle.mq_answers.proofs.TurnLemmas.{Turned}
use Rattle.mq_answers.proofs.comparing.gathered_lent.Given as goal

abbrev pub invariant-loop-part : goal.invariant-loop-part
invariant-loop-part l = record {
  right : All (IsRight (model_of l.fn.m)) l.parts;
  same : inputs_of l.parts ≡ inputs_of l.fn.parts;
  gathered : Turned (partition_step (model_of l.fn.m)) (0, []) (inputs_of l.fn.parts) l.part-index l.gathered;
}
