use Rattle.std.proofs.Common.{◌++◌, ap, sym, ◌∙◌, append-nil, arith}
use Rattle.std.proofs.lemmas.Result.{IfOk-weaker}
use Rattle.mq_targets.proofs.PlaceLemmas.{no_pair}
use Rattle.mq_targets.proofs.places.projected.Goals as goal

pub returns : goal.returns
returns c =
    let rest = no_pair c.args.places.now c.args.key.now c.loop-at.at (omega arith) in
    IfOk-weaker c.new.result _ _
    (λ other e. e ∙ sym (append-nil c.loop-at.values) ∙ ap (λ xs. c.loop-at.values ++ xs) (sym rest) ∙ c.loop-at.invariant)
    c.new.ensures
