use Rattle.std.proofs.Common.{refl, arith}
use Rattle.mq_engine.proofs.KeptLemmas.{halfway_all, halfway_start}
use Rattle.mq_engine.proofs.kept_views.KeptViews.pass_over.Goals as goal

pub views-init : goal.views-init
views-init c = record { as_many = refl; halfway = λ before now views are. halfway_start before now views c.args.self.now.views.entries are }

pub returns : goal.returns
returns c =
    λ before now views are.
    halfway_all before now views c.views.at c.views.self.views.entries (omega (arith, c.views.invariant.as_many, c.len-count.ensures.len))
    (c.views.invariant.halfway before now views are)
