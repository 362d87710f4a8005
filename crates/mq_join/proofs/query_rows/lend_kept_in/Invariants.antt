use Rattle.std.proofs.Common.{◌≡◌, map, take}
use Rattle.mq_ir.specs.BaseRows.{items_of}
use Rattle.mq_join.specs.Rows.{joined_at}
use Rattle.mq_join.proofs.query_rows.lend_kept_in.Given as goal

abbrev pub invariant-rows : goal.invariant-rows
invariant-rows g l = l.lent.items ≡ map (joined_at (items_of (g.T.TableSet.tables l.t) l.q)) (take l.at l.kept)
