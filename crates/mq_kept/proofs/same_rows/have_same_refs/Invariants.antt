use Rattle.std.proofs.Common.{take}
use Rattle.std.specs.List.{All}
use Rattle.mq_ir.specs.declared.query.RefPart.{RefPart}
use Rattle.mq_kept.specs.Beside.{HaveSameRows}
use Rattle.mq_kept.proofs.same_rows.have_same_refs.Given as goal

abbrev pub invariant-loop-part : goal.invariant-loop-part
invariant-loop-part g l =
    All (λ (r : RefPart). HaveSameRows (g.T.TableSet.tables l.before) (g.U.TableSet.tables l.under) r.source.from.tables) (take l.part-index l.refs)
