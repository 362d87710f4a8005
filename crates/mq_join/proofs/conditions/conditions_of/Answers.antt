use Rattle.std.proofs.Common.{◌≡◌, ◌<◌, ◌≤◌, List, Option, ◌++◌, get_or, length, sym, ap, subst, ◌∙◌, arith}
use Rattle.std.specs.List.{filter_map}
use Rattle.std.specs.Option.{option_to_list}
use Rattle.std.proofs.lemmas.List.{take_all}
use Rattle.mq_ir.specs.declared.expression.Expr.{Expr}
use Rattle.mq_join.proofs.PartLemmas.{conditions_more}
use Rattle.mq_join.proofs.conditions.conditions_of.Goals as goal

pub ons-preserved : goal.ons-preserved
ons-preserved c =
    let ons = c.args.q.now.ons in
    let i = c.ons.on-index in
    let x = c.on-item.result in
    let e = c.as_slice-on-items.ensures in
    c.in_ok-push_condition.ensures
    ∙ ap (λ conditions. conditions ++ option_to_list x) c.ons.invariant
    ∙ sym (conditions_more ons i x (subst (λ (l : List (Option Expr)). i < length l) e c.ons-test.true) (subst (λ (l : List (Option Expr)). x ≡ get_or l i x) e c.on-item.is))

pub returns : goal.returns
returns c =
    let ons = c.args.q.now.ons in
    let i = c.ons.on-index in
    let h : length c.as_slice-on-items.result.now ≤ i = omega arith in
    c.in_ok-push_condition-2.ensures
    ∙ ap (λ conditions. conditions ++ option_to_list c.args.q.now.filter)
    (c.ons.invariant ∙ ap (filter_map (λ (on : Option Expr). on)) (take_all i ons (subst (λ (l : List (Option Expr)). length l ≤ i) c.as_slice-on-items.ensures h)))
