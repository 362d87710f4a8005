use Rattle.std.proofs.Common.{rules, ◌≡◌, ◌<◌, ◌≤◌, List, true, length, subst, take_all}
use Rattle.mq_delta_parts.specs.declared.groups.PartChange.{PartChange}
use Rattle.mq_kept.proofs.RenewLemmas.{Renewing, one_may_follow, renewing_end, renewing_next, same_groups}
use Rattle.mq_kept.proofs.renewing_lent.renew_lent.Goals as goal

pub renew_group-requires-clause-may : goal.renew_group-requires-clause-may
renew_group-requires-clause-may c =
    let part = c.args.m.now.part.now in
    let change = c.args.change.now in
    let groups = c.as_slice-groups.result.now in
    let are = same_groups part.parts change.gone change.come _ _ groups _ c.as_slice-gone.ensures c.as_slice-come.ensures c.as_slice-groups.ensures c.in_ok-touched.ensures in
    let within : c.groups.group-index < length groups = search rules in
    one_may_follow part change c.args.parts.now c.partitions_ascend.ensures groups are c.groups.group-index c.group-item.result within c.group-item.is
    c.groups.parts c.groups.invariant.renewing c.requires.may

pub groups-preserved : goal.groups-preserved
groups-preserved c =
    let part = c.args.m.now.part.now in
    let change = c.args.change.now in
    let groups = c.as_slice-groups.result.now in
    let are = same_groups part.parts change.gone change.come _ _ groups _ c.as_slice-gone.ensures c.as_slice-come.ensures c.as_slice-groups.ensures c.in_ok-touched.ensures in
    let within : c.groups.group-index < length groups = search rules in
    let yes : c.in_ok-renew_group.field-0 ≡ true = search rules in
    record {
      right = c.renew_group.ensures.right;
      renewing =
          renewing_next part change c.args.parts.now c.partitions_ascend.ensures groups are c.groups.group-index c.group-item.result within c.group-item.is
          c.groups.parts c.groups.invariant.renewing c.renew_group.new.parts (c.in_ok-renew_group.ensures.followed yes);
    }

pub returns-clause-renewed : goal.returns-clause-renewed
returns-clause-renewed c = λ before after is changes _.
    let part = c.args.m.now.part.now in
    let change = c.args.change.now in
    let groups = c.as_slice-groups.result.now in
    let are = same_groups part.parts change.gone change.come _ _ groups _ c.as_slice-gone.ensures c.as_slice-come.ensures c.as_slice-groups.ensures c.in_ok-touched.ensures in
    let all : length groups ≤ c.groups.group-index = search rules in
    renewing_end part change c.args.parts.now c.partitions_ascend.ensures groups are c.groups.parts
    (subst (λ (done : List PartChange). Renewing part change done c.args.parts.now c.groups.parts) (take_all c.groups.group-index groups all) c.groups.invariant.renewing)
    before after is changes
