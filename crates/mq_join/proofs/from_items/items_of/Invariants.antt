use Rattle.std.proofs.Common.{◌≡◌, map, take}
use Rattle.mq_ir.specs.Tables.{rows_of}
use Rattle.mq_join.proofs.from_items.items_of.Given as goal

abbrev pub invariant-names : goal.invariant-names
invariant-names g l = l.items ≡ map (rows_of (g.T.TableSet.tables l.t)) (take l.name-index l.q.tables)
