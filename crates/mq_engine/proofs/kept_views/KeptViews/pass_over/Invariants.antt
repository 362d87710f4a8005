use Rattle.std.proofs.Common.{◌≡◌, List, length}
use Rattle.mq_ir.specs.declared.catalog.View.{View}
use Rattle.mq_ir.specs.Tables.{Tables}
use Rattle.mq_engine.specs.KeptViews.{AreHalfway, AreStandingOf}
use Rattle.mq_engine.proofs.kept_views.KeptViews.pass_over.Given as goal

abbrev pub invariant-views : goal.invariant-views
invariant-views l = record {
  as_many : length l.self.views.entries ≡ length l.fn.self.views.entries;
  halfway : (before now : Tables) (views : List View) → AreStandingOf before views l.fn.self.views.entries → AreHalfway before now views l.at l.self.views.entries;
}
