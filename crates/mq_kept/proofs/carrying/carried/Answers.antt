use Rattle.std.proofs.Common.{sym, ◌∙◌}
use Rattle.mq_kept.proofs.CarryLemmas.{still_kept}
use Rattle.mq_kept.proofs.carrying.carried.Goals as goal

pub returns-then-not-query_reads : goal.returns-then-not-query_reads
returns-then-not-query_reads g c =
    let stood = c.requires.stood in
    record {
      right = stood.stood.right;
      kept =
          λ fresh.
          still_kept c.args.table.now stood.before (g.T.TableSet.tables c.args.tables.now) stood.change.others c.args.q.now c.args.part.now c.requires.model
          (sym c.query_reads.ensures ∙ c.if-not-query_reads.true) c.args.old.view (stood.stood.kept fresh);
    }
