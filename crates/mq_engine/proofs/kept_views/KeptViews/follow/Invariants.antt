use Rattle.std.proofs.Common.{length}
use Rattle.mq_engine.specs.KeptViews.{AreStandingOf, StoodAll}
use Rattle.mq_engine.proofs.kept_views.KeptViews.follow.Given as goal

abbrev pub invariant-views : goal.invariant-views
invariant-views l = record {
  left : StoodAll l.fn.touched l.fn.table l.fn.tables l.fn.views l.old.entries;
  kept : AreStandingOf l.fn.tables l.fn.views l.self.views.entries;
}

abbrev pub decreases-views : goal.decreases-views
decreases-views l = length l.old.entries
