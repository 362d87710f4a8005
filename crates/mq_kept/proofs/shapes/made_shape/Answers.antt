use Rattle.mq_ir.specs.Unfolding.{model_of}
use Rattle.mq_kept.proofs.FoundLemmas.{judged_fault}
use Rattle.mq_kept.proofs.shapes.made_shape.Goals as goal

pub shared-requires : goal.shared-requires
shared-requires c = (rw c.in-Ok.is at c.in_ok-judged.ensures).rounds

pub returns-in-Err : goal.returns-in-Err
returns-in-Err c = judged_fault (model_of c.args.m.now) c.args.p.now c.in-Err.fault c.requires.automatic (rw c.in-Err.is at c.in_ok-judged.ensures)
