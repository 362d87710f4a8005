use Rattle.std.proofs.lemmas.List.Elements.{All-set}
use Rattle.mq_ir.specs.Unfolding.{model_of}
use Rattle.mq_kept.specs.Kept.{IsRight}
use Rattle.mq_kept.proofs.renewing_lent.renew_group.Goals as goal

pub returns-in-Some-clause-right : goal.returns-in-Some-clause-right
returns-in-Some-clause-right c =
    All-set (IsRight (model_of c.args.m.now)) c.args.parts.now c.in-Some.at c.renew_one.new.part c.renew_one.ensures.right c.requires.right
