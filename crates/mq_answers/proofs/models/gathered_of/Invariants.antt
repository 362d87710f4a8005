use Rattle.std.proofs.Common.{◌<◌, [], vec_len}
use Rattle.std.specs.List.{All}
use Rattle.mq_ir.specs.Answer.{partition_step}
use Rattle.mq_ir.specs.Ready.{IsReady}
use Rattle.mq_ir.specs.Unfolding.{model_of}
use Rattle.mq_answers.proofs.StretchLemmas.{Left}
use Rattle.mq_answers.proofs.models.gathered_of.Given as goal

-- what is left comes, behind what is gathered, to the same as all
abbrev pub invariant-waves : goal.invariant-waves
invariant-waves g l =
    (0 < l.length) × All (IsReady l.m.part.now) l.left.items × Left (partition_step (model_of l.m)) (0, []) l.fn.inputs l.left.items l.gathered

abbrev pub decreases-waves : goal.decreases-waves
decreases-waves g l = vec_len l.left
