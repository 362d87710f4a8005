use Rattle.mq_render.proofs.PieceLemmas.{begins_earlier}
use Rattle.mq_render.proofs.pieces.push_values.Goals as goal

pub returns-in_err-push_behind-clause-front : goal.returns-in_err-push_behind-clause-front
returns-in_err-push_behind-clause-front c =
    begins_earlier _ _ _ _ (begins_earlier _ _ _ _ c.in_err-push_behind.ensures.front c.values.invariant) c.in_ok-print.ensures.ok
