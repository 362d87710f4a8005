use Rattle.std.proofs.Common.{◌≡◌, ◌||◌, sym, ap, ◌∙◌}
use Rattle.std.specs.List.{filter, list_any}
use Rattle.std.proofs.lemmas.Result.{IfOk-weaker}
use Rattle.mq_auto_shape.specs.Edges.{looks_by}
use Rattle.mq_refs.specs.LookParts.{is_wanted}
use Rattle.mq_delta_cells.specs.Walks.{ground_of, is_known_in, model_at}
use Rattle.mq_delta_cells.proofs.PartLemmas.{hit_parted}
use Rattle.mq_delta_cells.proofs.parts.is_hit_by_parts.Goals as goal

pub returns-then-branch : goal.returns-then-branch
returns-then-branch c =
    let work = c.args.work.now in
    let seeds = work.seeds.now in
    let known = is_known_in (ground_of work) c.args.changed.now in
    let looks = looks_by (model_at work) work.shape.now c.args.a.now in
    let same : seeds.old.now ≡ work.shape.now = rw c.requires.same at c.requires.seeds.differ in
    sym (
    hit_parted (model_at work) seeds.old.now work.shape.now seeds.moved.now work.course.now.cells seeds.names c.args.changed.now same c.requires.seeds.moved
    c.measures-in_names.result.now c.measures-in_changed.result.now c.measures-in_names.ensures c.measures-in_changed.ensures c.args.a.now c.requires.own c.same_looks_are_one.ensures
    ∙ ap (λ b. b || list_any known (filter (is_wanted c.measures-in_names.result.now) looks)) (sym c.in_ok-is_some_wanted.ensures ∙ c.if-branch.true)
    )

pub returns : goal.returns
returns c =
    let work = c.args.work.now in
    let seeds = work.seeds.now in
    let known = is_known_in (ground_of work) c.args.changed.now in
    let looks = looks_by (model_at work) work.shape.now c.args.a.now in
    let same : seeds.old.now ≡ work.shape.now = rw c.requires.same at c.requires.seeds.differ in
    IfOk-weaker c.is_some_wanted-2.result _ _
    (λ hit h. h ∙ sym (
    hit_parted (model_at work) seeds.old.now work.shape.now seeds.moved.now work.course.now.cells seeds.names c.args.changed.now same c.requires.seeds.moved
    c.measures-in_names.result.now c.measures-in_changed.result.now c.measures-in_names.ensures c.measures-in_changed.ensures c.args.a.now c.requires.own c.same_looks_are_one.ensures
    ∙ ap (λ b. b || list_any known (filter (is_wanted c.measures-in_names.result.now) looks)) (sym c.in_ok-is_some_wanted.ensures ∙ c.if-branch.false)
    )) c.is_some_wanted-2.ensures
