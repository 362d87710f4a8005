use Rattle.std.proofs.Common.{◌≡◌, true, arith, ap, sym, ◌∙◌}
use Rattle.mq_ir.specs.Tables.{rows_of}
use Rattle.mq_kept.proofs.SameLemmas.{same_further, same_whole}
use Rattle.mq_kept.proofs.same_rows.have_same_rows.Goals as goal

pub loop-name-preserved : goal.loop-name-preserved
loop-name-preserved g c =
    let told : c.has_same_rows.result ≡ true = cc in
    same_further c.args.names.now c.loop-name.name-index c.name-item.result c.loop-name-test.true c.name-item.is
    (rows_of (g.U.TableSet.tables c.args.under.now)) (rows_of (g.T.TableSet.tables c.args.before.now))
    (ap (rows_of (g.U.TableSet.tables c.args.under.now)) (sym c.as_str.ensures) ∙ c.has_same_rows.ensures told
    ∙ ap (rows_of (g.T.TableSet.tables c.args.before.now)) c.as_str.ensures) c.loop-name.invariant

pub returns : goal.returns
returns g c =
    λ told.
    same_whole c.args.names.now (rows_of (g.U.TableSet.tables c.args.under.now)) (rows_of (g.T.TableSet.tables c.args.before.now))
    c.loop-name.name-index (omega arith) c.loop-name.invariant
