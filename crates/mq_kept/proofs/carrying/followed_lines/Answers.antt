use Rattle.std.proofs.Common.{◌≡◌, List, Option, Some, ◌∙◌, ap, sym, subst}
use Rattle.std.specs.Prelude.{IfSome}
use Rattle.mq_ir.specs.Keys.{Tuple}
use Rattle.mq_ir.specs.Tables.{rows_of}
use Rattle.mq_delta_items.specs.Lines.{items_in, lines_of}
use Rattle.mq_delta_items.specs.Touching.{IsTouchedBy}
use Rattle.mq_delta_parts.specs.Woven.{IsChangeOf}
use Rattle.mq_kept.proofs.CarryLemmas.{followed_with}
use Rattle.mq_kept.proofs.SourceLemmas.{rows_there}
use Rattle.mq_kept.proofs.carrying.followed_lines.Goals as goal

pub returns : goal.returns
returns g c =
    let tables = g.T.TableSet.tables c.args.tables.now in
    let rows = rows_there tables c.args.table.now c.in-Some.rows.now (sym c.in-Some.ensures) in
    λ before touched lines.
    followed_with c.args.q.now c.args.lines (rows_of tables c.args.table.now) c.lines_after.new.lines c.in_ok-found.found c.with_change.result c.with_change.ensures
    (subst (λ (all : List Tuple). IfSome c.in_ok-found.found (λ change. (lines_of c.args.q.now.from c.args.q.now.items all ≡ Some c.lines_after.new.lines) × IsChangeOf (items_in c.args.lines) change.gone change.come (items_in c.lines_after.new.lines)))
    (sym rows) (c.in_ok-found.ensures.found before (subst (IsTouchedBy c.args.touched.now before) rows touched) lines))
