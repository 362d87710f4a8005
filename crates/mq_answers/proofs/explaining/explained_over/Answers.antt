use Rattle.mq_answers.proofs.ExplainLemmas.{explained_is, fault_is}
use Rattle.mq_answers.proofs.explaining.explained_over.Goals as goal

pub returns-in-Ok : goal.returns-in-Ok
returns-in-Ok g c =
    explained_is (g.T.TableSet.tables c.args.tables.now) c.args.q.now c.args.part.now c.args.key.now c.args.cell.now c.in-Ok.explained c.in-Ok.ensures

pub returns-in-Err-Cause : goal.returns-in-Err-Cause
returns-in-Err-Cause g c =
    fault_is (g.T.TableSet.tables c.args.tables.now) c.args.q.now c.args.part.now c.args.key.now c.args.cell.now c.in-Err-Cause.fault
    (rw c.in-Err-Cause.field-0-is at c.in-Err-Cause.ensures)
