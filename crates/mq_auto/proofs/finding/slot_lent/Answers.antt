use Rattle.std.proofs.Common.{Ok, Err}
use Rattle.mq_auto.specs.Walks.{model_in}
use Rattle.mq_auto.proofs.LentLemmas.{lent_is}
use Rattle.mq_auto.proofs.finding.slot_lent.Goals as goal

pub returns-in-Ok : goal.returns-in-Ok
returns-in-Ok c =
    let work = c.args.work.now in
    lent_is c.args.lent c.requires.values (model_in work) work.shape.now c.args.rule.now c.args.target.now work.keys.cells.now work.keys.base.now c.requires.work.cells
    c.requires.work.base (Ok c.in-Ok.v) c.in-Ok.ensures

pub returns-in-Err-Cause : goal.returns-in-Err-Cause
returns-in-Err-Cause c =
    let work = c.args.work.now in
    lent_is c.args.lent c.requires.values (model_in work) work.shape.now c.args.rule.now c.args.target.now work.keys.cells.now work.keys.base.now c.requires.work.cells
    c.requires.work.base (Err c.in-Err-Cause.fault) (rw c.in-Err-Cause.field-0-is at c.in-Err-Cause.ensures)
