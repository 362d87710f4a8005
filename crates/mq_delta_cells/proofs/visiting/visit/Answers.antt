use Rattle.std.proofs.Common.{◌≡◌, ◌+◌, ◌≤◌, ◌<◌, List, length, true, false, slice_get, refl, sym, ap, subst, ◌∙◌}
use Rattle.std.specs.List.{All}
use Rattle.mq_ir.specs.Shape.{Assignment}
use Rattle.mq_auto_shape.specs.Found.{IsRuled}
use Rattle.mq_delta_cells.specs.Walks.{IsVisited, ground_of, is_hit, model_at, reads_of_hit}
use Rattle.mq_cells.specs.Stores.{name_assigned}
use Rattle.mq_delta_cells.proofs.DueLemmas.{due_next}
use Rattle.mq_delta_cells.proofs.StepLemmas.{holds_here, reads_hit, same_item, visited_hit, visited_missed}
use Rattle.mq_delta_cells.proofs.visiting.visit.Goals as goal

pub returns-in_err-assign-clause-reads : goal.returns-in_err-assign-clause-reads
returns-in_err-assign-clause-reads g c =
    let work = c.args.work.now in
    let ground = ground_of work in
    let it = c.index-as_slice-place.result in
    let struck : is_hit ground c.args.changed.now it ≡ true = sym c.in_ok-is_hit_at.ensures ∙ c.if-branch.true in
    λ a at.
    subst (λ (b : Assignment). g.C.Cells.looks c.assign.new.cells ≤ g.C.Cells.looks c.args.cells.now + reads_of_hit ground c.args.changed.now b)
    (same_item c.as_slice.result.now c.args.place it a c.index-as_slice-place.is (ap (λ (xs : List Assignment). slice_get xs c.args.place) c.as_slice.ensures ∙ at))
    (reads_hit ground c.args.changed.now it (g.C.Cells.looks c.args.cells.now) (g.C.Cells.looks c.assign.new.cells) struck c.assign.ensures.reads)

pub returns-in_ok-assign-clause-reads : goal.returns-in_ok-assign-clause-reads
returns-in_ok-assign-clause-reads g c =
    let work = c.args.work.now in
    let ground = ground_of work in
    let it = c.index-as_slice-place.result in
    let struck : is_hit ground c.args.changed.now it ≡ true = sym c.in_ok-is_hit_at.ensures ∙ c.if-branch.true in
    λ a at.
    subst (λ (b : Assignment). g.C.Cells.looks c.assign.new.cells ≤ g.C.Cells.looks c.args.cells.now + reads_of_hit ground c.args.changed.now b)
    (same_item c.as_slice.result.now c.args.place it a c.index-as_slice-place.is (ap (λ (xs : List Assignment). slice_get xs c.args.place) c.as_slice.ensures ∙ at))
    (reads_hit ground c.args.changed.now it (g.C.Cells.looks c.args.cells.now) (g.C.Cells.looks c.assign.new.cells) struck c.assign.ensures.reads)

pub returns-in_ok-assign-clause-visited : goal.returns-in_ok-assign-clause-visited
returns-in_ok-assign-clause-visited g c =
    let work = c.args.work.now in
    let ground = ground_of work in
    let it = c.index-as_slice-place.result in
    let given = g.C.Cells.input c.args.cells.now in
    let before = g.C.Cells.results c.args.cells.now in
    let after = g.C.Cells.results c.assign.new.cells in
    let struck : is_hit ground c.args.changed.now it ≡ true = sym c.in_ok-is_hit_at.ensures ∙ c.if-branch.true in
    λ a at.
    subst (IsVisited ground given before after c.args.changed.now c.assign.new.changed)
    (same_item c.as_slice.result.now c.args.place it a c.index-as_slice-place.is (ap (λ (xs : List Assignment). slice_get xs c.args.place) c.as_slice.ensures ∙ at))
    (visited_hit ground given before after c.args.changed.now c.assign.new.changed it struck c.in_ok-assign.ensures.assigned)

pub returns-else-branch-clause-visited : goal.returns-else-branch-clause-visited
returns-else-branch-clause-visited g c =
    let work = c.args.work.now in
    let ground = ground_of work in
    let it = c.index-as_slice-place.result in
    let given = g.C.Cells.input c.args.cells.now in
    let before = g.C.Cells.results c.args.cells.now in
    let spared : is_hit ground c.args.changed.now it ≡ false = sym c.in_ok-is_hit_at.ensures ∙ c.if-branch.false in
    λ a at.
    subst (IsVisited ground given before before c.args.changed.now c.args.changed.now)
    (same_item c.as_slice.result.now c.args.place it a c.index-as_slice-place.is (ap (λ (xs : List Assignment). slice_get xs c.args.place) c.as_slice.ensures ∙ at))
    (visited_missed ground given before before c.args.changed.now c.args.changed.now it spared refl refl)

pub returns-in_ok-assign-clause-due : goal.returns-in_ok-assign-clause-due
returns-in_ok-assign-clause-due g c =
    let work = c.args.work.now in
    let it = c.index-as_slice-place.result in
    let done = c.in_ok-assign.ensures.assigned in
    due_next (ground_of work) work.course.now.cells work.course.now.readers c.requires.course.readers c.args.changed.now c.assign.new.changed
    (name_assigned it) c.args.due.now.items c.assign.new.due.items done.noted c.in_ok-assign.ensures.marked c.requires.due

pub assign-requires-clause-ruled : goal.assign-requires-clause-ruled
assign-requires-clause-ruled g c =
    let work = c.args.work.now in
    holds_here (IsRuled (model_at work)) c.as_slice.result.now c.args.place c.index-as_slice-place.result c.index-as_slice-place.is
    (subst (λ (xs : List Assignment). c.args.place < length xs) (sym c.as_slice.ensures) c.requires.place)
    (subst (All (IsRuled (model_at work))) (sym c.as_slice.ensures) c.requires.course.ruled)
