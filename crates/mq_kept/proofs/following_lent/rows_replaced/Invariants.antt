use Rattle.std.proofs.Common.{take}
use Rattle.mq_kept.specs.FollowingLent.{AreExchanged}
use Rattle.mq_kept.proofs.following_lent.rows_replaced.Given as goal

abbrev pub invariant-were : goal.invariant-were
invariant-were l = AreExchanged (take l.was-index l.were) l.rows l.change
