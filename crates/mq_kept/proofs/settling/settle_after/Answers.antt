use Rattle.mq_ir.specs.Unfolding.{model_of}
use Rattle.mq_kept.proofs.settling.settle_after.Goals as goal

pub returns-then-is_settled-clause-last : goal.returns-then-is_settled-clause-last
returns-then-is_settled-clause-last g c = c.shape_in.ensures (model_of c.args.m.now) c.args.part.now.input c.requires.right.found

pub returns-clause-last : goal.returns-clause-last
returns-clause-last g c = c.shape_in-2.ensures (model_of c.args.m.now) c.args.part.now.input c.in_ok-part.ensures.found
