use Rattle.std.proofs.Common.{None}
use Rattle.mq_cells.proofs.ColumnLemmas.{changed}
use Rattle.mq_cells.proofs.column.Column.clear.Goals as goal

pub returns : goal.returns
returns c = changed c.args.key.now None c.self.inside.slots.entries c.args.self.now _ c.self.view_is c.remove.ensures.updates.0
