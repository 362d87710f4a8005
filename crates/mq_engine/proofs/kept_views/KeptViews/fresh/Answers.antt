use Rattle.std.proofs.Common.{ap, subst}
use Rattle.std.specs.Prelude.{IfSome}
use Rattle.std.specs.Option.{option_copied}
use Rattle.mq_engine.specs.KeptViews.{IsStandingOf}
use Rattle.mq_engine.proofs.KeptLemmas.{found_right}
use Rattle.mq_engine.proofs.kept_views.KeptViews.fresh.Goals as goal

pub returns-then-standing : goal.returns-then-standing
returns-then-standing c = λ tables views are v is part model.
    let right =
    found_right (IsStandingOf tables) views c.args.name.now c.args.self.now.views.entries v are is (option_copied c.get.result) c.get.ensures.value in
    let stands = subst (λ o. IfSome o (IsStandingOf tables v)) (ap option_copied c.in_ok-standing.was) right in
    (stands part model).kept c.if-standing.true
