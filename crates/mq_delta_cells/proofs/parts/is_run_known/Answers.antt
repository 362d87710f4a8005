use Rattle.std.proofs.Common.{◌+◌, ◌-◌, ◌||◌, [], drop, take, sym, ap, ◌∙◌}
use Rattle.std.specs.List.{list_any}
use Rattle.mq_ir.specs.Looks.{looks_at}
use Rattle.mq_delta_cells.specs.Walks.{ground_of, is_known_in}
use Rattle.mq_delta_cells.proofs.PartLemmas.{run_end, run_next}
use Rattle.mq_delta_cells.proofs.parts.is_run_known.Goals as goal

pub returns-then-branch : goal.returns-then-branch
returns-then-branch c =
    let known = is_known_in (ground_of c.args.work.now) c.args.changed.now in
    let set = c.args.work.now.course.now.cells in
    let place = c.places.place in
    sym (
    sym c.places.invariant ∙ run_next known c.args.m set place c.args.past [] c.places-test.true c.requires.within
    ∙ ap (λ b. b || list_any known (looks_at c.args.m (take (c.args.past - (place + 1)) (drop (place + 1) set)))) (sym (c.in_ok-is_place_known.ensures []) ∙ c.if-branch.true)
    )

pub places-preserved : goal.places-preserved
places-preserved c =
    let known = is_known_in (ground_of c.args.work.now) c.args.changed.now in
    let set = c.args.work.now.course.now.cells in
    let place = c.places.place in
    sym (
    run_next known c.args.m set place c.args.past [] c.places-test.true c.requires.within
    ∙ ap (λ b. b || list_any known (looks_at c.args.m (take (c.args.past - (place + 1)) (drop (place + 1) set)))) (sym (c.in_ok-is_place_known.ensures []) ∙ c.if-branch.false)
    ) ∙ c.places.invariant

pub returns : goal.returns
returns c =
    let known = is_known_in (ground_of c.args.work.now) c.args.changed.now in
    let set = c.args.work.now.course.now.cells in
    sym (sym c.places.invariant ∙ run_end known c.args.m set c.places.place c.args.past c.places-test.false)
