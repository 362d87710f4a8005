use Rattle.std.proofs.Common.{subst}
use Rattle.mq_values.specs.Answers.{Gives}
use Rattle.mq_ir.specs.Reads.{right_value}
use Rattle.mq_ir.specs.Unfolding.{model_of}
use Rattle.mq_seq.proofs.assigning.value_over.Goals as goal

pub returns : goal.returns
returns c =
    let act = c.args.act.now in
    let model = model_of act.model.now in
    subst (Gives c.lent_value.result)
    (λ i. right_value (record { model = model; target = c.args.target.now; turn = act.turn; set = c.lent.ensures.keys i }) (c.lent.ensures.base i) (c.lent.ensures.values i) act.rule.now)
    c.lent_value.ensures
