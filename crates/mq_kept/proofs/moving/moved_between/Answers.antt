use Rattle.std.proofs.Common.{◌+◌, Some, None, Vec, Global, sym, ap, subst, ◌∙◌}
use Rattle.std.specs.Option.{option_copied}
use Rattle.mq_ir.specs.declared.query.CellName.{CellName}
use Rattle.mq_ir.specs.Partitions.{cell_at}
use Rattle.mq_cells.proofs.GatherLemmas.{cells_ascend}
use Rattle.mq_delta_cells.specs.Seeds.{is_moved}
use Rattle.mq_kept.proofs.MovedLemmas.{MovedUpTo, moved_start, moved_on, moved_end, or_false}
use Rattle.mq_kept.proofs.moving.moved_between.Goals.{in-Some+in_ok-add_moved-in-Some, in-None}
use Rattle.mq_kept.proofs.moving.moved_between.Goals as goal

pub find_measures-requires : goal.find_measures-requires
find_measures-requires c = λ _. cells_ascend c.args.before.now c.requires.before

pub cells-init : goal.cells-init
cells-init c = subst (MovedUpTo c.args.before.now c.args.after.now 0) (sym c.new-moved.ensures.items) (moved_start c.args.before.now c.args.after.now c.requires.after)

pub cells-preserved : goal.cells-preserved
cells-preserved c =
    let before = c.args.before.now in
    let after = c.args.after.now in
    let at = c.cells.cell-index in
    let cell = c.cell-item.result in
    let moved = c.cells.moved.items in
    let Holds = λ (v : Vec CellName Global). MovedUpTo before after (at + 1) v.items in
    elim c.match-find_measures.branch [
      | in-Some+in_ok-add_moved-in-Some w ↦
          subst Holds (sym w.moved-is)
          (moved_on before after at cell moved c.cells-test.true c.cell-item.is c.cells.invariant (Some w.in-Some.were.now) w.add_moved.new.moved.items
          (sym (ap option_copied w.in-Some.is) ∙ c.find_measures.ensures ∙ ap (cell_at before) c.as_slice.ensures) w.in_ok-add_moved-in-Some.ensures)
      | in-None w ↦
          subst Holds (sym w.moved-is)
          (moved_on before after at cell moved c.cells-test.true c.cell-item.is c.cells.invariant None moved
          (sym (ap option_copied w.in-None.is) ∙ c.find_measures.ensures ∙ ap (cell_at before) c.as_slice.ensures) (λ name. sym (or_false (is_moved moved name))))
    ]

pub returns : goal.returns
returns c = moved_end c.args.before.now c.args.after.now c.cells.cell-index c.cells.moved.items c.cells-test.false c.cells.invariant
