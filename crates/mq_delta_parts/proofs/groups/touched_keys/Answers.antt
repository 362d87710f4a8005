use Rattle.std.proofs.Common.{[], sym, subst, ◌∙◌}
use Rattle.std.proofs.lemmas.Result.{IfOk-weaker}
use Rattle.mq_ir.specs.Rising.{Rising}
use Rattle.mq_delta_parts.specs.Groups.{Grouped, by_key}
use Rattle.mq_delta_parts.proofs.GroupLemmas.{are_groups, in_order}
use Rattle.mq_delta_parts.proofs.groups.touched_keys.Goals as goal

pub groups_in-requires : goal.groups_in-requires
groups_in-requires c =
    let parts = c.args.part.now.parts in
    subst (Rising (by_key parts)) (sym (c.deref.ensures.value ∙ c.in_ok-changes.ensures)) (in_order parts c.args.gone.now c.args.come.now)

pub returns : goal.returns
returns c =
    let parts = c.args.part.now.parts in
    IfOk-weaker c.groups_in.result _ _
    (λ groups g. are_groups parts c.args.gone.now c.args.come.now groups (subst (λ l. Grouped parts l [] groups) (c.deref.ensures.value ∙ c.in_ok-changes.ensures) g))
    c.groups_in.ensures
