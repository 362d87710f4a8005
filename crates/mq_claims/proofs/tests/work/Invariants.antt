use Rattle.mq_claims.specs.Calls.{IsSeatOf, IsAsFirst, MayClaim}
use Rattle.mq_claims.proofs.tests.work.Given as goal

abbrev pub invariant-claims : goal.invariant-claims
invariant-claims l = IsSeatOf l.board l.seat × MayClaim l.seat × IsAsFirst l.fn.seat l.seat
