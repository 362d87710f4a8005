use Rattle.std.proofs.Common.{Option, ◌∙◌, ap, sym, subst}
use Rattle.std.specs.Prelude.{IfSome}
use Rattle.mq_ir.specs.declared.catalog.View.{View}
use Rattle.mq_ir.specs.NamedItems.{item_of}
use Rattle.mq_kept.specs.declared.standing.StandingView.{StandingView}
use Rattle.mq_engine.specs.KeptViews.{AreStandingOf, IsStandingOf}
use Rattle.mq_engine.proofs.KeptLemmas.{put_right}
use Rattle.mq_engine.proofs.kept_views.KeptViews.put.Goals as goal

pub returns : goal.returns
returns c =
    λ tables views are v is right.
    subst (AreStandingOf tables views) (sym c.in_ok-insert.ensures.entries)
    (put_right (IsStandingOf tables) views c.in_ok-name.name c.in-Some.view c.args.self.now.views.entries v are
    (ap (item_of (λ (view : View). view.name) views) c.in_ok-name.ensures.ok ∙ is)
    (subst (λ (o : Option StandingView). IfSome o (IsStandingOf tables v)) c.in-Some.is right))
