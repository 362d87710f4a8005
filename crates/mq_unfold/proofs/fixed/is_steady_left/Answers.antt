use Rattle.std.proofs.Common.{sym, subst}
use Rattle.std.specs.List.{All}
use Rattle.mq_unfold.specs.FixedLefts.{IsSteady, IsSteadyLeft}
use Rattle.mq_unfold.proofs.FixedLemmas.{places_steady}
use Rattle.mq_unfold.proofs.fixed.is_steady_left.Goals as goal

pub returns-in-Places : goal.returns-in-Places
returns-in-Places c = λ h. subst IsSteadyLeft (sym c.in-Places.is) (places_steady c.in-Places.items (subst (All IsSteady) c.as_slice.ensures (c.are_steady.ensures h)))
