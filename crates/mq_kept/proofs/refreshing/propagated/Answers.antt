use Rattle.mq_ir.specs.Unfolding.{model_of}
use Rattle.mq_kept.proofs.FoundLemmas.{judged_fault, judged_shape}
use Rattle.mq_kept.proofs.refreshing.propagated.Goals as goal

pub carried_over-requires : goal.carried_over-requires
carried_over-requires c =
    let judged = rw c.in-Ok.is at c.in_ok-judged.ensures in
    let found = judged_shape (model_of c.args.m.now) c.args.new.now c.in-Ok.found judged in
    record { old = c.requires.old; new = c.requires.new; values = c.requires.values; faultless = found.0; shaped = found.1; levelled = judged.rounds }

pub returns-in-Err : goal.returns-in-Err
returns-in-Err c =
    judged_fault (model_of c.args.m.now) c.args.new.now c.in-Err.fault c.requires.values.automatic (rw c.in-Err.is at c.in_ok-judged.ensures)
