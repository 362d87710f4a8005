use Rattle.std.proofs.Common.{Option, subst}
use Rattle.std.specs.Prelude.{IfSome}
use Rattle.mq_kept.specs.declared.standing.StandingView.{StandingView}
use Rattle.mq_engine.specs.KeptViews.{IsRightAt, IsStandingOf}
use Rattle.mq_engine.proofs.KeptLemmas.{inserted_or_not}
use Rattle.mq_engine.proofs.kept_views.keep.Goals as goal

pub returns-in-Some : goal.returns-in-Some
returns-in-Some c =
    λ tables seen are right.
    inserted_or_not (IsStandingOf tables) seen c.insert.result c.args.name c.in-Some.now c.args.views.now.entries c.insert.new.self.entries
    c.insert.ensures.entries c.insert.ensures.err are
    (subst (λ (o : Option StandingView). IfSome o (λ now. IsRightAt (IsStandingOf tables) seen (c.args.name, now))) c.in-Some.is right)
