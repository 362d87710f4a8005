use Rattle.std.proofs.Common.{◌∙◌, Ok, ap, sym, subst}
use Rattle.mq_ir.specs.Keys.{Tuple}
use Rattle.mq_kept.proofs.SourceLemmas.{lines_found}
use Rattle.mq_kept.proofs.sources.items_read.Goals as goal

pub returns-in_ok-items-in-Some-clause-exact : goal.returns-in_ok-items-in-Some-clause-exact
returns-in_ok-items-in-Some-clause-exact g c =
    lines_found (g.T.TableSet.tables c.args.tables.now) c.args.q.now c.in_ok-lines.field-0 c.in-Some.lines c.in-Some.is c.in_ok-lines.ensures
    ∙ ap Ok (sym c.in_ok-items-in-Some.ensures)
