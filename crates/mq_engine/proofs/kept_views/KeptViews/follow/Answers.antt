use Rattle.std.proofs.Common.{◌++◌, ◌∙◌, ap}
use Rattle.std.specs.Option.{option_to_list}
use Rattle.mq_engine.proofs.KeptLemmas.{stood_before, stood_last}
use Rattle.mq_engine.proofs.kept_views.KeptViews.follow.Goals as goal

pub standing_after-now-requires-clause-stood : goal.standing_after-now-requires-clause-stood
standing_after-now-requires-clause-stood c =
    stood_last c.args.touched.now c.args.table.now c.args.tables.now c.args.views.now c.views.old.entries c.pop.new.self.entries (c.in-Some.name, c.in-Some.standing)
    (c.pop.ensures.entries ∙ ap (λ o. c.pop.new.self.entries ++ option_to_list o) c.in-Some.is) c.views.invariant.left

pub views-preserved : goal.views-preserved
views-preserved c = record {
  left =
      stood_before c.args.touched.now c.args.table.now c.args.tables.now c.args.views.now c.views.old.entries c.pop.new.self.entries c.pop.result
      c.pop.ensures.entries c.views.invariant.left;
  kept = c.keep.ensures c.args.tables.now c.args.views.now c.views.invariant.kept c.standing_after-now.ensures;
}
