use Rattle.mq_engine.proofs.BlockLemmas.{begun}
use Rattle.mq_engine.proofs.engine.Engine.begin.Goals as goal

pub returns : goal.returns
returns c = begun c.self.inside.tables c.self.inside.catalog c.args.self.now c.self.inside.block c.new.result c.args.line c.self.view_is c.new.ensures
