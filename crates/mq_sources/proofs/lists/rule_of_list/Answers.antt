use Rattle.std.proofs.Common.{Some, None, sym, ap, ◌∙◌}
use Rattle.std.specs.List.{position}
use Rattle.std.proofs.lemmas.Result.{IfOk-weaker}
use Rattle.mq_ir.specs.declared.query.Rule.{Rule}
use Rattle.mq_ir.specs.Answer.{left_takes}
use Rattle.mq_sources.proofs.ListLemmas.{first_number}
use Rattle.mq_sources.proofs.lists.rule_of_list.Goals as goal

pub returns-in-Some : goal.returns-in-Some
returns-in-Some c =
    let takes = λ (rule : Rule). left_takes c.args.list rule.left in
    let at = ap (position takes) (sym c.as_slice.ensures) ∙ sym c.in-Some.ensures in
    IfOk-weaker c.numbered.result _ _ (λ rule e. e ∙ sym (first_number takes c.args.part.now.rules (Some c.in-Some.place) at)) c.numbered.ensures

pub returns-in-None : goal.returns-in-None
returns-in-None c =
    let takes = λ (rule : Rule). left_takes c.args.list rule.left in
    sym (first_number takes c.args.part.now.rules None (ap (position takes) (sym c.as_slice.ensures) ∙ sym c.in-None.ensures))
