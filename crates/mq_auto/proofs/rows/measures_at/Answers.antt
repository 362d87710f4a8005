use Rattle.std.proofs.Common.{ap, ◌∙◌}
use Rattle.mq_ir.specs.Slots.{done_value}
use Rattle.mq_cells.specs.Stores.{cell_name, slot_at}
use Rattle.mq_auto.proofs.RowLemmas.{value_next}
use Rattle.mq_auto.proofs.rows.measures_at.Goals as goal

pub measures-preserved : goal.measures-preserved
measures-preserved g c =
    let key = c.args.key.now in
    let m = c.measures.measure in
    let same = c.measures.invariant.same_input in
    let kept = c.measures.invariant.same_results in
    record {
      values =
          value_next (λ n. done_value (slot_at (g.C.Cells.input c.args.cells.now) (g.C.Cells.results c.args.cells.now) (cell_name key n))) c.measures.values c.push.new.self m c.done_value.result
          c.measures.invariant.values c.in_ok-push.ensures.ok
          (c.done_value.ensures ∙ ap done_value (c.in_ok-slot.ensures.slot ∙ (λ i. slot_at (same i) (kept i) (cell_name key m))));
      same_input = c.in_ok-slot.ensures.same_input ∙ same;
      same_results = c.in_ok-slot.ensures.same_results ∙ kept;
    }
