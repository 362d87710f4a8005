use Rattle.std.proofs.Common.{◌≡◌, true, false, sym, ap, subst, ◌∙◌}
use Rattle.std.specs.List.{All}
use Rattle.std.specs.Map.{keys_of}
use Rattle.mq_dim_index.specs.Places.{is_there}
use Rattle.mq_values.specs.Answers.{Gives}
use Rattle.mq_ir.specs.Results.{each_in_turn}
use Rattle.mq_ir.specs.Targets.{targets}
use Rattle.mq_ir.specs.Ready.{HaveLength}
use Rattle.mq_seq.specs.Steps.{State, act_in, created_in, target_done}
use Rattle.mq_seq.proofs.CreatedLemmas.{all_there, created_lacking}
use Rattle.mq_seq.proofs.LeftLemmas.{left_fails, left_passes}
use Rattle.mq_ir.specs.CreatedLaws.{created_long}
use Rattle.mq_seq.proofs.lefts.act_one.Goals as goal

pub targets-requires : goal.targets-requires
targets-requires c = λ k d l. c.index.ensures.wide k d l ∙ sym c.requires

pub with_created-requires-clause-wide : goal.with_created-requires-clause-wide
with_created-requires-clause-wide c =
    let left = c.args.left.now in
    let n = c.args.grid.width in
    let set = c.index.result.now in
    let mode = c.args.act.now.rule.now.mode in
    subst (HaveLength n) (sym (c.as_slice.ensures ∙ c.in_ok-found.ensures.created)) (created_long left n c.requires mode set c.index.ensures.wide)

pub with_created-requires-clause-new : goal.with_created-requires-clause-new
with_created-requires-clause-new c =
    let left = c.args.left.now in
    let mode = c.args.act.now.rule.now.mode in
    let grid = c.args.grid in
    subst (All (λ key. is_there (keys_of grid.track.cells) key ≡ false))
    (sym (c.as_slice.ensures ∙ c.in_ok-found.ensures.created ∙ ap (λ set. (targets left mode set).created) c.index.ensures.keys))
    (created_lacking grid (targets left mode (keys_of grid.track.cells)).cells)

pub assign_all-requires : goal.assign_all-requires
assign_all-requires c =
    let left = c.args.left.now in
    let mode = c.args.act.now.rule.now.mode in
    let grid = c.args.grid in
    let found = targets left mode (keys_of grid.track.cells) in
    let now : c.in_ok-grid.grid ≡ created_in found.created grid =
    c.in_ok-grid.ensures ∙ ap (λ l. created_in l grid) (c.as_slice.ensures ∙ c.in_ok-found.ensures.created ∙ ap (λ set. (targets left mode set).created) c.index.ensures.keys)
    in
    subst (λ (s : State). All (λ target. is_there (keys_of s.track.cells) target ≡ true) c.as_slice-in-None.result.now) (sym now)
    (subst (All (λ target. is_there (keys_of (created_in found.created grid).track.cells) target ≡ true))
    (sym (c.as_slice-in-None.ensures ∙ c.in_ok-found.ensures.cells ∙ ap (λ set. (targets left mode set).cells) c.index.ensures.keys)) (all_there grid found.cells))

pub returns-in-Some-clause-exact : goal.returns-in-Some-clause-exact
returns-in-Some-clause-exact c =
    let left = c.args.left.now in
    let mode = c.args.act.now.rule.now.mode in
    left_fails (act_in c.args.act.now) left c.args.grid c.as_slice-2.result.now c.as_slice.result.now c.in_ok-grid.grid
    (c.as_slice-2.ensures ∙ c.in_ok-found.ensures.cells ∙ ap (λ set. (targets left mode set).cells) c.index.ensures.keys)
    (c.as_slice.ensures ∙ c.in_ok-found.ensures.created ∙ ap (λ set. (targets left mode set).created) c.index.ensures.keys)
    c.in_ok-grid.ensures c.in-Some.fault (sym c.in-Some.is ∙ c.in_ok-fault.ensures)

pub returns-clause-exact : goal.returns-clause-exact
returns-clause-exact c =
    let left = c.args.left.now in
    let mode = c.args.act.now.rule.now.mode in
    let cells = c.as_slice-2.result.now in
    subst (Gives c.assign_all.result)
    (ap (λ l. each_in_turn (target_done (act_in c.args.act.now)) l c.in_ok-grid.grid) (c.as_slice-in-None.ensures ∙ sym c.as_slice-2.ensures)
    ∙ left_passes (act_in c.args.act.now) left c.args.grid cells c.as_slice.result.now c.in_ok-grid.grid
    (c.as_slice-2.ensures ∙ c.in_ok-found.ensures.cells ∙ ap (λ set. (targets left mode set).cells) c.index.ensures.keys)
    (c.as_slice.ensures ∙ c.in_ok-found.ensures.created ∙ ap (λ set. (targets left mode set).created) c.index.ensures.keys)
    c.in_ok-grid.ensures (sym c.in-None.is ∙ c.in_ok-fault.ensures)) c.assign_all.ensures.exact
