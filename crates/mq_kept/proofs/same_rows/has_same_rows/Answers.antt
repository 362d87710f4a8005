use Rattle.std.proofs.Common.{sym, ◌∙◌}
use Rattle.mq_kept.proofs.SourceLemmas.{rows_there}
use Rattle.mq_kept.proofs.same_rows.has_same_rows.Goals as goal

pub returns : goal.returns
returns g c =
    λ told.
    rows_there (g.U.TableSet.tables c.args.under.now) c.args.name.now c.in-Some-rows.b.now (sym c.in-Some-rows.ensures)
    ∙ sym (c.are_same_keys.ensures told)
    ∙ sym (rows_there (g.T.TableSet.tables c.args.before.now) c.args.name.now c.in-Some.a.now (sym c.in-Some.ensures))
