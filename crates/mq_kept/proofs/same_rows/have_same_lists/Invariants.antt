use Rattle.std.proofs.Common.{take}
use Rattle.std.specs.List.{All}
use Rattle.mq_ir.specs.declared.query.PlainPart.{PlainPart}
use Rattle.mq_kept.specs.Beside.{HaveSameRows}
use Rattle.mq_kept.proofs.same_rows.have_same_lists.Given as goal

abbrev pub invariant-loop-part : goal.invariant-loop-part
invariant-loop-part g l =
    All (λ (r : PlainPart). HaveSameRows (g.T.TableSet.tables l.before) (g.U.TableSet.tables l.under) r.from.tables) (take l.part-index l.lists)
