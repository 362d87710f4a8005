use Rattle.std.proofs.Common.{take}
use Rattle.mq_kept.specs.Beside.{HaveSameRows}
use Rattle.mq_kept.proofs.same_rows.have_same_rows.Given as goal

abbrev pub invariant-loop-name : goal.invariant-loop-name
invariant-loop-name g l = HaveSameRows (g.T.TableSet.tables l.before) (g.U.TableSet.tables l.under) (take l.name-index l.names)
