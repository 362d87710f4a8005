use Rattle.std.proofs.Common.{List, ◌++◌, refl, ◌∙◌, subst}
use Rattle.std.specs.List.Sorted.{IsStrictlySortedBy}
use Rattle.mq_values.specs.Order.{cmp_key}
use Rattle.mq_ir.specs.Keys.{Tuple}
use Rattle.mq_tables.proofs.StandingLemmas.{all_put_to_end, all_stand, none_came}
use Rattle.mq_tables.proofs.ascending.Ascending.append.Goals as goal

pub returns-then-not-all_come_behind-clause-kept : goal.returns-then-not-all_come_behind-clause-kept
returns-then-not-all_come_behind-clause-kept c = λ _. (refl, all_stand c.settle.new.gone.keys c.settle.new.keys.items c.settle.ensures.none ∙ c.settle.ensures.left ∙ c.others.view_is)

pub invariant_of-others-2 : goal.invariant_of-others-2
invariant_of-others-2 c = none_came c.settle.new.gone.keys c.append.new.other.items c.settle.ensures.none c.in_ok-append.ensures.other_items

pub returns-clause-put : goal.returns-clause-put
returns-clause-put c = λ _.
    let own = c.self.inside in
    let others = c.settle.new.keys.items in
    let follow =
    subst (λ (l : List Tuple). IsStrictlySortedBy cmp_key (own.keys.items ++ l)) c.as_slice-2.ensures.value
    (subst (λ (l : List Tuple). IsStrictlySortedBy cmp_key (l ++ c.as_slice-2.result.now)) c.as_slice.ensures.value (c.all_come_behind.ensures c.if-not-all_come_behind.false)) in
    all_put_to_end own.gone.keys own.keys.items others c.append.new.self.items c.self.invariant follow c.in_ok-append.ensures.items
    ∙ (λ j. c.self.view_is j ++ (c.settle.ensures.left ∙ c.others.view_is) j)
