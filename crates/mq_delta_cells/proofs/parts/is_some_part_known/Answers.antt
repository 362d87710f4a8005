use Rattle.std.proofs.Common.{◌+◌, ◌||◌, drop, length, sym, ap, subst, ◌∙◌}
use Rattle.std.specs.List.{list_any}
use Rattle.std.proofs.lemmas.List.Elements.{All-get_or}
use Rattle.mq_refs.specs.LookParts.{is_within, looks_in}
use Rattle.mq_delta_cells.specs.Walks.{ground_of, is_known_in}
use Rattle.mq_delta_cells.proofs.PartLemmas.{parts_end, parts_next}
use Rattle.mq_delta_cells.proofs.parts.is_some_part_known.Goals as goal

pub is_part_known-requires-clause-within : goal.is_part_known-requires-clause-within
is_part_known-requires-clause-within c =
    let count = length c.args.work.now.course.now.cells in
    let parts = c.args.parts.now in
    subst (is_within count) (sym c.part-item.is) (All-get_or (is_within count) parts c.parts.part-index c.part-item.result c.parts-test.true c.requires.within)

pub returns-then-branch : goal.returns-then-branch
returns-then-branch c =
    let known = is_known_in (ground_of c.args.work.now) c.args.changed.now in
    let set = c.args.work.now.course.now.cells in
    let parts = c.args.parts.now in
    let i = c.parts.part-index in
    sym (
    sym c.parts.invariant ∙ parts_next known set parts i c.part-item.result c.parts-test.true c.part-item.is
    ∙ ap (λ b. b || list_any known (looks_in set (drop (i + 1) parts))) (sym c.in_ok-is_part_known.ensures ∙ c.if-branch.true)
    )

pub parts-preserved : goal.parts-preserved
parts-preserved c =
    let known = is_known_in (ground_of c.args.work.now) c.args.changed.now in
    let set = c.args.work.now.course.now.cells in
    let parts = c.args.parts.now in
    let i = c.parts.part-index in
    sym (
    parts_next known set parts i c.part-item.result c.parts-test.true c.part-item.is
    ∙ ap (λ b. b || list_any known (looks_in set (drop (i + 1) parts))) (sym c.in_ok-is_part_known.ensures ∙ c.if-branch.false)
    ) ∙ c.parts.invariant

pub returns : goal.returns
returns c =
    let known = is_known_in (ground_of c.args.work.now) c.args.changed.now in
    let set = c.args.work.now.course.now.cells in
    sym (sym c.parts.invariant ∙ parts_end known set c.args.parts.now c.parts.part-index c.parts-test.false)
