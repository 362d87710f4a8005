use Rattle.mq_ir.specs.Unfolding.{model_of}
use Rattle.mq_seq.proofs.MeaningLemmas.{rows_are}
use Rattle.mq_seq.proofs.outcomes.run_seq.Goals as goal

pub returns-in-Ok : goal.returns-in-Ok
returns-in-Ok c = record { exact = rows_are (model_of c.args.m.now) c.args.p.now c.in-Ok.rows c.in-Ok.ensures }
