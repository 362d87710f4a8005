use Rattle.std.proofs.Common.{◌≡◌, map, Ok, sym, ap, ◌∙◌}
use Rattle.mq_ir.specs.Answer.{plain_fault}
use Rattle.mq_ir.specs.Results.{marked}
use Rattle.mq_join.specs.Kept.{PlaceRows}
use Rattle.mq_join.specs.Rows.{joined_rows, places_in}
use Rattle.mq_delta_base.proofs.JoinedLemmas.{kept_from, rows_from, rows_wide}
use Rattle.mq_delta_base.proofs.delta.kept_rows_in.Goals as goal

pub places_of-requires : goal.places_of-requires
places_of-requires g c =
    let tables = g.T.TableSet.tables c.args.t.now in
    let rows : marked (plain_fault 0) (joined_rows tables c.args.q.now) ≡ Ok c.as_slice.result.now = c.in-Ok.ensures.joined ∙ ap Ok (sym c.as_slice.ensures.value) in
    λ i h. rows_wide tables c.args.q.now c.as_slice.result.now (rows_from tables c.args.q.now c.as_slice.result.now rows) i h ∙ sym c.len.ensures

pub returns-in_ok-places-in-Ok : goal.returns-in_ok-places-in-Ok
returns-in_ok-places-in-Ok g c =
    let tables = g.T.TableSet.tables c.args.t.now in
    let rows : marked (plain_fault 0) (joined_rows tables c.args.q.now) ≡ Ok c.as_slice.result.now = c.in-Ok.ensures.joined ∙ ap Ok (sym c.as_slice.ensures.value) in
    ap Ok (c.new.ensures ∙ ap (λ (p : PlaceRows). p.rows) c.in_ok-places-in-Ok.ensures) ∙ kept_from tables c.args.q.now c.as_slice.result.now rows
