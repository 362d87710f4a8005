use Rattle.std.proofs.Common.{List, sym, ap, ◌∙◌}
use Rattle.std.specs.Option.{option_copied, option_map_or}
use Rattle.std.specs.Prelude.{Some}
use Rattle.mq_ir.specs.Keys.{Tuple}
use Rattle.mq_ir.specs.Tables.{Tables}
use Rattle.mq_tables.specs.Rows.{rows_at}
use Rattle.mq_overlay.proofs.HeldLemmas.{absent_rows, shown_rows}
use Rattle.mq_overlay.proofs.changed_tables.OverlayTableSet.rows.Goals as goal

pub returns-in_err-rows : goal.returns-in_err-rows
returns-in_err-rows c =
    let name = c.args.name.now in
    ap option_copied c.from_residual.ensures
    ∙ sym (ap (λ (ts : Tables). rows_at ts name) (sym c.self.view_is) ∙ absent_rows c.self.inside.tables.now c.self.inside.pending name (sym c.in_err-rows.ensures))

pub returns-in-Some : goal.returns-in-Some
returns-in-Some c =
    let name = c.args.name.now in
    let rows = c.in_ok-rows.rows.now in
    sym (ap (λ (ts : Tables). rows_at ts name) (sym c.self.view_is)
    ∙ shown_rows c.self.inside.tables.now c.self.inside.pending name rows (sym c.in_ok-rows.ensures)
    ∙ ap (λ o. Some (option_map_or (λ (r : List Tuple). r) o rows)) (sym c.in-Some.ensures))

pub returns-in-None : goal.returns-in-None
returns-in-None c =
    let name = c.args.name.now in
    let rows = c.in_ok-rows.rows.now in
    sym (ap (λ (ts : Tables). rows_at ts name) (sym c.self.view_is)
    ∙ shown_rows c.self.inside.tables.now c.self.inside.pending name rows (sym c.in_ok-rows.ensures)
    ∙ ap (λ o. Some (option_map_or (λ (r : List Tuple). r) o rows)) (sym c.in-None.ensures))
