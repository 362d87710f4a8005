use Rattle.std.proofs.Common.{sym, subst}
use Rattle.mq_engine.specs.KeptViews.{AreStandingOf, IsStandingOf, goes_by}
use Rattle.mq_engine.proofs.KeptLemmas.{found_right, left_right}
use Rattle.mq_engine.proofs.kept_views.KeptViews.take.Goals as goal

pub returns-clause-taken : goal.returns-clause-taken
returns-clause-taken c =
    λ tables views are v is.
    found_right (IsStandingOf tables) views c.args.name.now c.args.self.now.views.entries v are is c.shift_remove.result c.shift_remove.ensures.value

pub returns-clause-left : goal.returns-clause-left
returns-clause-left c =
    λ tables views are.
    subst (AreStandingOf tables views) (sym c.shift_remove.ensures.entries)
    (left_right (IsStandingOf tables) views (goes_by c.args.name.now) c.args.self.now.views.entries are)
