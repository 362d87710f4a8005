use Rattle.std.proofs.Common.{◌≡◌, map, Ok, sym, ap, ◌∙◌}
use Rattle.mq_ir.specs.BaseRows.{items_of}
use Rattle.mq_join.specs.Chosen.{choosing}
use Rattle.mq_join.specs.Kept.{PlaceRows}
use Rattle.mq_join.specs.Rows.{rows_over}
use Rattle.mq_delta_base.specs.Sets.{union}
use Rattle.mq_delta_base.proofs.JoinedLemmas.{adds, chosen_wide}
use Rattle.mq_delta_base.proofs.delta.with_touched.Goals as goal

pub places_through-requires : goal.places_through-requires
places_through-requires g c =
    let tables = g.T.TableSet.tables c.args.after.now in
    let rows : rows_over c.args.q.now (choosing c.args.item c.args.touched.now (items_of tables c.args.q.now)) ≡ Ok c.as_slice.result.now = c.in_ok-chosen.ensures ∙ ap Ok (sym c.as_slice.ensures.value) in
    λ i h. chosen_wide tables c.args.q.now c.args.item c.args.touched.now c.as_slice.result.now rows i h ∙ sym c.len.ensures

pub returns : goal.returns
returns g c =
    let tables = g.T.TableSet.tables c.args.after.now in
    let rows : rows_over c.args.q.now (choosing c.args.item c.args.touched.now (items_of tables c.args.q.now)) ≡ Ok c.as_slice.result.now = c.in_ok-chosen.ensures ∙ ap Ok (sym c.as_slice.ensures.value) in
    adds c.args.q.now c.args.item c.args.touched.now (items_of tables c.args.q.now) c.as_slice.result.now c.args.rows.now c.in_ok-union.field-0 rows
    (c.in_ok-union.ensures ∙ ap (λ (p : PlaceRows). record { width = c.args.rows.now.width; rows = union c.args.rows.now.rows p.rows }) c.in_ok-block.ensures)
