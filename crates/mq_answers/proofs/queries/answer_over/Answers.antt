use Rattle.mq_answers.proofs.AnswerLemmas.{fault_answered, rows_answered}
use Rattle.mq_answers.proofs.queries.answer_over.Goals as goal

pub returns-in-Ok : goal.returns-in-Ok
returns-in-Ok g c = rows_answered (g.T.TableSet.tables c.args.tables.now) c.args.q.now c.in-Ok.rows c.in-Ok.ensures

pub returns-in-Err-Cause : goal.returns-in-Err-Cause
returns-in-Err-Cause g c = fault_answered (g.T.TableSet.tables c.args.tables.now) c.args.q.now c.in-Err-Cause.fault (rw c.in-Err-Cause.field-0-is at c.in-Err-Cause.ensures)
