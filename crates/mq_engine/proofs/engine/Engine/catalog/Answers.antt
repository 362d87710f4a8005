use Rattle.mq_engine.proofs.BlockLemmas.{pending_entries}
use Rattle.mq_engine.proofs.engine.Engine.catalog.Goals as goal

pub returns-clause-pending : goal.returns-clause-pending
returns-clause-pending c = pending_entries c.self.inside.tables c.self.inside.catalog c.self.inside.block c.args.self.now c.self.view_is c.self.invariant.0
