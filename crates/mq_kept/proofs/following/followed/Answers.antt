use Rattle.std.proofs.Common.{Ok, ap, sym, ◌∙◌}
use Rattle.mq_kept.proofs.SourceLemmas.{not_followed, same_lines}
use Rattle.mq_kept.proofs.following.followed.Goals as goal

pub returns-in-Ok : goal.returns-in-Ok
returns-in-Ok g c =
    record {
      read = c.in-Ok.ensures.exact ∙ ap Ok (sym c.in_ok-brought-in-Ok.ensures.same);
      right = c.in_ok-brought-in-Ok.ensures.right;
      lines = same_lines (g.T.TableSet.tables c.args.tables.now) c.args.q.now c.in_ok-brought-in-Ok.ensures.lines c.in-Ok.ensures.lines;
    }

pub returns-in-Err-Cause : goal.returns-in-Err-Cause
returns-in-Err-Cause g c =
    not_followed (g.T.TableSet.tables c.args.tables.now) c.args.q.now c.args.part.now c.in-Err-Cause._fault (rw c.in-Err-Cause.field-0-is at c.in-Err-Cause.ensures.exact)
