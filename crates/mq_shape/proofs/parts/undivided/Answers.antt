use Rattle.std.proofs.Common.{◌∷◌, [], ◌++◌, sym, ◌∙◌}
use Rattle.mq_shape.proofs.RunLemmas.{undivided_is}
use Rattle.mq_shape.proofs.parts.undivided.Goals as goal

pub returns : goal.returns
returns c =
    c.in_ok-push.ensures.ok
    ∙ (λ i. c.new-inputs.ensures i ++ c.in_ok-input_of.ensures i ∷ [])
    ∙ sym (undivided_is c.args.q.now c.args.items.now c.requires)
