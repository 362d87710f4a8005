use Rattle.std.proofs.Common.{map, sym, ap, ◌∙◌}
use Rattle.mq_engine.specs.Catalogs.{entry_of_table}
use Rattle.mq_engine.proofs.HoldLemmas.{entries_held}
use Rattle.mq_engine.proofs.engine.Engine.commit.Goals as goal

pub invariant_of-self : goal.invariant_of-self
invariant_of-self g c = (
  c.self.invariant.0 ∙ sym (ap (map entry_of_table) c.commit.ensures.tables ∙ entries_held c.self.inside.tables c.in-Some-take.block.pending),
  c.self.invariant.1,
  c.self.invariant.2,
  c.pass_over.ensures c.self.inside.tables c.commit.new.tables c.self.inside.catalog.views c.self.invariant.3,
)
