use Rattle.std.proofs.Common.{Ok, sym, ap, subst, ◌∙◌}
use Rattle.std.specs.Option.{option_to_list}
use Rattle.std.proofs.lemmas.Result.{err_from_is_err_and}
use Rattle.mq_values.specs.Answers.{Gives}
use Rattle.mq_ir.specs.declared.expression.Leaf.{Leaf}
use Rattle.mq_ir.specs.BaseRows.{all_true}
use Rattle.mq_ir.specs.Expression.{Outcome}
use Rattle.mq_delta_items.proofs.ConditionLemmas.{ons_exit, ons_false, ons_true}
use Rattle.mq_delta_items.proofs.conditions.all_met.Goals as goal

pub returns-in_err-ons_met : goal.returns-in_err-ons_met
returns-in_err-ons_met g c =
    let p = err_from_is_err_and c.from_residual.result c.from_residual.ensures.1 in
    rw (p.1, p.2)
    (ons_exit (g.V.Env.gives c.args.env.now) c.args.from.now c.as_slice.result.now c.as_slice.ensures c.in_err-ons_met.field-0.0
    c.in_err-ons_met.ensures.exact)

pub returns-then-not-branch : goal.returns-then-not-branch
returns-then-not-branch g c =
    ons_false (g.V.Env.gives c.args.env.now) c.args.from.now c.as_slice.result.now c.as_slice.ensures
    (c.in_ok-ons_met.ensures.exact ∙ ap Ok c.if-not-branch.true)

pub returns : goal.returns
returns g c =
    let from = c.args.from.now in
    let all = ons_true (g.V.Env.gives c.args.env.now) from c.as_slice.result.now c.as_slice.ensures
    (c.in_ok-ons_met.ensures.exact ∙ ap Ok c.if-not-branch.false) in
    subst (Gives c.is_met.result)
    (ap (λ (leaves : Leaf → Outcome). all_true leaves (option_to_list from.filter)) c.in_ok-ons_met.ensures.same ∙ sym all) c.is_met.ensures.exact
