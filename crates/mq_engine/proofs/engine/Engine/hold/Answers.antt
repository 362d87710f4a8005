use Rattle.std.proofs.Common.{sym, ap, ◌∙◌}
use Rattle.mq_engine.specs.Blocks.{state_over}
use Rattle.mq_engine.proofs.BlockLemmas.{held_in}
use Rattle.mq_engine.proofs.engine.Engine.hold.Goals as goal

pub returns-clause-exact : goal.returns-clause-exact
returns-clause-exact c =
    let tables = c.self.inside.tables in
    let k = c.self.inside.catalog in
    λ block there.
    held_in tables k c.args.self.now c.in-Some.block c.hold.new.self c.args.c.now c.hold.result (ap (state_over tables k) (sym c.in-Some.is) ∙ c.self.view_is) c.hold.ensures.exact block there
