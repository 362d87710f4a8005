use Rattle.std.proofs.Common.{Ok, ap, sym, ◌∙◌}
use Rattle.std.proofs.lemmas.Result.{err_from_is_err_and}
use Rattle.mq_kept.proofs.SourceLemmas.{begun_fault, same_lines}
use Rattle.mq_kept.proofs.beginning.begun.Goals as goal

pub returns-in_err-found : goal.returns-in_err-found
returns-in_err-found g c =
    let p = err_from_is_err_and c.from_residual.result c.from_residual.ensures.1 in
    rw (p.1, p.2) (begun_fault (g.T.TableSet.tables c.args.tables.now) c.args.q.now c.args.part.now c.in_err-found.field-0.0 c.requires.model c.in_err-found.ensures.exact)

pub returns : goal.returns
returns g c =
    record {
      read = c.in_ok-found.ensures.exact ∙ ap Ok (sym (c.in_ok-view.ensures.same c.args.part.now));
      right = c.in_ok-view.ensures.right c.args.part.now c.in_ok-found.ensures.ready;
      lines = same_lines (g.T.TableSet.tables c.args.tables.now) c.args.q.now c.in_ok-view.ensures.lines c.in_ok-found.ensures.lines;
    }
