use Rattle.std.proofs.Common.{Some}
use Rattle.mq_cells.proofs.ColumnLemmas.{changed}
use Rattle.mq_cells.proofs.column.Column.put.Goals as goal

pub returns-clause-ok : goal.returns-clause-ok
returns-clause-ok c =
    changed c.args.key (Some c.args.slot) c.self.inside.slots.entries c.args.self.now _ c.self.view_is c.in_ok-insert.ensures.updates.0
