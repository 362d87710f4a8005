use Rattle.std.proofs.Common.{◌≡◌, true, subst, length, ◌≤◌, arith}
use Rattle.mq_ir.specs.declared.query.PlainPart.{PlainPart}
use Rattle.mq_kept.specs.Beside.{HaveSameRows}
use Rattle.mq_kept.proofs.SameLemmas.{each_further, each_whole}
use Rattle.mq_kept.proofs.same_rows.have_same_lists.Goals as goal

pub loop-part-preserved : goal.loop-part-preserved
loop-part-preserved g c =
    let told : c.have_same_rows.result ≡ true = cc in
    each_further c.args.lists.now c.loop-part.part-index c.part-item.result c.loop-part-test.true c.part-item.is
    (λ (r : PlainPart). HaveSameRows (g.T.TableSet.tables c.args.before.now) (g.U.TableSet.tables c.args.under.now) r.from.tables)
    (subst (HaveSameRows (g.T.TableSet.tables c.args.before.now) (g.U.TableSet.tables c.args.under.now)) c.as_slice.ensures (c.have_same_rows.ensures told))
    c.loop-part.invariant

pub returns : goal.returns
returns g c =
    λ told.
    each_whole c.args.lists.now (λ (r : PlainPart). HaveSameRows (g.T.TableSet.tables c.args.before.now) (g.U.TableSet.tables c.args.under.now) r.from.tables)
    c.loop-part.part-index (omega arith) c.loop-part.invariant
