use Rattle.std.proofs.Common.{sym}
use Rattle.mq_tool.proofs.BlockLemmas.{no_line, takes_inside, takes_outside}
use Rattle.mq_tool.proofs.takes.take.Goals as goal

pub take_outside-requires-clause-outside : goal.take_outside-requires-clause-outside
take_outside-requires-clause-outside g c κs alive = no_line c.args.engine.now (sym c.in-None.ensures)

pub returns-in-None : goal.returns-in-None
returns-in-None g c =
    λ files. takes_outside files c.args.engine.now c.take_outside.new.engine c.args.line c.args.bound c.args.out.now.items c.take_outside.new.out.items c.take_outside.result
    (no_line c.args.engine.now (sym c.in-None.ensures)) (c.take_outside.ensures files)

pub returns-in-Some : goal.returns-in-Some
returns-in-Some g c =
    λ files. takes_inside files c.args.engine.now c.take_in_block.new.engine c.args.line c.in-Some.begun c.args.bound c.args.out.now.items c.take_in_block.new.out.items c.take_in_block.result
    (sym c.in-Some.ensures) c.take_in_block.ensures
