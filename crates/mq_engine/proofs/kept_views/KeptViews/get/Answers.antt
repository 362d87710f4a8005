use Rattle.std.specs.Option.{option_copied}
use Rattle.mq_engine.specs.KeptViews.{IsStandingOf}
use Rattle.mq_engine.proofs.KeptLemmas.{found_right}
use Rattle.mq_engine.proofs.kept_views.KeptViews.get.Goals as goal

pub returns : goal.returns
returns c =
    λ tables views are v is.
    found_right (IsStandingOf tables) views c.args.name.now c.args.self.now.views.entries v are is (option_copied c.get.result) c.get.ensures.value
