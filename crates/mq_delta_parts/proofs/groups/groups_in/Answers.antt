use Rattle.std.proofs.Common.{rules, ◌≡◌, ◌<◌, not, length, take, sym, ap, subst, ◌∙◌, arith}
use Rattle.std.specs.List.{filter}
use Rattle.std.proofs.lemmas.List.{length-drop, nil_from_length}
use Rattle.mq_delta_parts.specs.Groups.{NoneLess, group_from, has_key}
use Rattle.mq_delta_parts.proofs.GroupLemmas.{first_least, run_some, stage_end, stage_next, stage_start}
use Rattle.mq_delta_parts.proofs.groups.groups_in.Goals as goal

pub run_length-count-requires-clause-least : goal.run_length-count-requires-clause-least
run_length-count-requires-clause-least c =
    let parts = c.args.parts in
    let rest = c.runs.rest.now in
    let first = c.index-rest-0.result in
    let long : 0 < length rest = search rules in
    let key_is : c.up_to-key.result.now ≡ take parts first.0 = c.up_to-key.ensures ∙ ap (take parts) c.as_slice.ensures in
    subst (λ k. NoneLess parts k rest) (sym key_is) (first_least parts first rest long c.index-rest-0.is c.runs.invariant.rising)

pub runs-init : goal.runs-init
runs-init c = stage_start c.args.parts c.args.changes.now c.new-groups.result c.new-groups.ensures c.requires

pub runs-smaller : goal.runs-smaller
runs-smaller c =
    let parts = c.args.parts in
    let rest = c.runs.rest.now in
    let first = c.index-rest-0.result in
    let n = c.run_length-count.result in
    let long : 0 < length rest = search rules in
    let key_is : c.up_to-key.result.now ≡ take parts first.0 = c.up_to-key.ensures ∙ ap (take parts) c.as_slice.ensures in
    let run = c.run_length-count.ensures.run ∙ ap (λ k. filter (has_key parts k) rest) key_is in
    let some : 0 < n = run_some parts first rest n long c.index-rest-0.is run in
    let less : length c.split_at.result.1.now < length rest = omega (arith, ap length c.split_at.ensures.back, length-drop n rest) in
    less

pub runs-preserved : goal.runs-preserved
runs-preserved c =
    let parts = c.args.parts in
    let rest = c.runs.rest.now in
    let first = c.index-rest-0.result in
    let key = take parts first.0 in
    let long : 0 < length rest = search rules in
    let key_is : c.up_to-key.result.now ≡ key = c.up_to-key.ensures ∙ ap (take parts) c.as_slice.ensures in
    let run = c.split_at.ensures.front ∙ c.run_length-count.ensures.run ∙ ap (λ k. filter (has_key parts k) rest) key_is in
    let others = c.split_at.ensures.back ∙ c.run_length-count.ensures.others ∙ ap (λ k. filter (λ change. not (has_key parts k change)) rest) key_is in
    let made = c.in_ok-group_of.ensures ∙ (λ i. group_from (key_is i) (run i)) in
    stage_next parts c.args.changes.now rest c.runs.groups first long c.index-rest-0.is c.runs.invariant c.push.new.self c.in_ok-group_of.field-0 c.in_ok-push.ensures.ok made c.split_at.result.1.now others

pub returns : goal.returns
returns c =
    let none : length c.runs.rest.now ≡ 0 = search rules in
    stage_end c.args.parts c.args.changes.now c.runs.rest.now c.runs.groups (nil_from_length c.runs.rest.now none) c.runs.invariant
