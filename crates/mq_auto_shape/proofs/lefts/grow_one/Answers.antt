use Rattle.std.proofs.Common.{◌≡◌, List, [], None, map, sym, ap, subst, ◌∙◌}
use Rattle.std.specs.List.{filter, list_any}
use Rattle.mq_values.specs.Order.{cmp_key}
use Rattle.mq_dim_index.specs.Places.{is_there}
use Rattle.mq_ir.specs.Keys.{Tuple}
use Rattle.mq_ir.specs.Shape.{Assignment, assigns, cmp_assignment, least_of}
use Rattle.mq_ir.specs.Targets.{targets}
use Rattle.mq_auto_shape.specs.Walk.{AreUnassigned, Fresh, assigned_by, fault_in, placed_all}
use Rattle.mq_auto_shape.proofs.CycleLemmas.{least_none}
use Rattle.mq_auto_shape.proofs.FreshLemmas.{created_fresh, targets_fresh}
use Rattle.mq_auto_shape.proofs.LeftLemmas.{left_fails, left_passes, none_again}
use Rattle.mq_auto_shape.proofs.lefts.grow_one.Goals as goal

pub with_created-requires : goal.with_created-requires
with_created-requires c =
    subst (Fresh (is_there c.args.growth.set)) (sym (c.as_slice-2.ensures ∙ c.in_ok-found.ensures.created))
    (created_fresh c.args.left.now c.args.growth.set c.targets.ensures.ascend c.args.rule.now.mode)

pub with_assigned-requires : goal.with_assigned-requires
with_assigned-requires c =
    let m = c.args.rule.now.measure in
    let mode = c.args.rule.now.mode in
    let left = c.args.left.now in
    let set = c.args.growth.set in
    let before = c.args.growth.assigned in
    let cells = (targets left mode set).cells in
    let had = λ (key : Tuple). list_any (assigns m key) before in
    let none : None ≡ c.in_ok-again.again =
    none_again c.args.number c.in_ok-again.again _ (sym c.in-None.is ∙ c.fault_of.ensures) in
    let passes : filter had cells ≡ [] =
    least_none cmp_key (filter had cells) (none ∙ c.in_ok-again.ensures ∙ ap (λ (l : List Tuple). least_of cmp_key (filter had l)) (c.as_slice.ensures ∙ c.in_ok-found.ensures.cells)) in
    subst (λ (nodes : List Assignment). AreUnassigned m nodes c.in_ok-found.found.cells) (sym c.in_ok-there.ensures.assigned)
    (subst (AreUnassigned m before) (sym c.in_ok-found.ensures.cells)
    (targets_fresh left set c.targets.ensures.ascend mode had passes))

pub returns-in-Some : goal.returns-in-Some
returns-in-Some c =
    left_fails c.args.number c.args.rule.now c.args.left.now c.args.growth c.as_slice.result.now c.as_slice-2.result.now c.in_ok-again.again c.in_ok-there.there
    (c.as_slice.ensures ∙ c.in_ok-found.ensures.cells) (c.as_slice-2.ensures ∙ c.in_ok-found.ensures.created) c.in_ok-again.ensures c.in_ok-there.ensures.set c.in-Some.fault
    (sym c.in-Some.is ∙ c.fault_of.ensures ∙ ap (fault_in c.args.number c.in_ok-again.again) c.len.ensures)

pub returns-in_ok-grown-in-None : goal.returns-in_ok-grown-in-None
returns-in_ok-grown-in-None c =
    left_passes c.args.number c.args.rule.now c.args.left.now c.args.growth c.as_slice.result.now c.as_slice-2.result.now c.in_ok-again.again c.in_ok-there.there
    (c.as_slice.ensures ∙ c.in_ok-found.ensures.cells) (c.as_slice-2.ensures ∙ c.in_ok-found.ensures.created) c.in_ok-again.ensures c.in_ok-there.ensures.set c.in_ok-grown-in-None.grown
    (sym c.in-None.is ∙ c.fault_of.ensures ∙ ap (fault_in c.args.number c.in_ok-again.again) c.len.ensures) c.in_ok-grown-in-None.ensures.set
    (c.in_ok-grown-in-None.ensures.assigned
    ∙ ap (λ (l : List Tuple). placed_all cmp_assignment (map (assigned_by c.args.rule.now.measure c.args.number) l) c.in_ok-there.there.assigned) (sym c.as_slice.ensures))
    c.in_ok-there.ensures.assigned
