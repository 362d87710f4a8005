use Rattle.std.proofs.Common.{arith}
use Rattle.std.proofs.lemmas.List.{take_more}
use Rattle.mq_levels.proofs.NumberLemmas.{more_marked, none_marked}
use Rattle.mq_levels.proofs.marking.mark.Goals as goal

pub loop-node-preserved : goal.loop-node-preserved
loop-node-preserved c =
    rw (take_more c.args.nodes.now c.loop-node.node-index 0 (omega arith))
    (more_marked _ _ c.args.number c.args.numbers.now c.loop-node.numbers c.loop-node.invariant (omega arith))

pub loop-node-init : goal.loop-node-init
loop-node-init c = none_marked c.args.number c.args.numbers.now
