use Rattle.std.proofs.Common.{◌≡◌, arith, false, sym, ap, subst, ◌∙◌}
use Rattle.std.specs.Prelude.{◌==◌}
use Rattle.std.proofs.lemmas.Bool.Decides.{nat_tests}
use Rattle.std.proofs.lemmas.Result.{IfOk-weaker}
use Rattle.mq_ir.specs.Rising.{Rising}
use Rattle.mq_shape.specs.Runs.{by_parts, inputs_in}
use Rattle.mq_shape.proofs.RunLemmas.{parts_total, partitions_in}
use Rattle.mq_ir.specs.SortLaws.{rising_ascending}
use Rattle.mq_shape.proofs.parts.partitions.Goals as goal

pub inputs-requires : goal.inputs-requires
inputs-requires c =
    let parts = c.args.q.now.parts in
    subst (Rising (by_parts parts)) (sym (c.deref.ensures.value ∙ c.in_ok-rows.ensures)) (rising_ascending (parts_total parts) c.args.items.now)

pub returns : goal.returns
returns c =
    let divided : (c.args.q.now.parts == 0) ≡ false = grind (arith, nat_tests) in
    IfOk-weaker c.inputs.result _ _
    (λ found e. e ∙ ap (inputs_in c.args.q.now) (c.deref.ensures.value ∙ c.in_ok-rows.ensures) ∙ sym (partitions_in c.args.q.now c.args.items.now divided))
    c.inputs.ensures
