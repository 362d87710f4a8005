use Rattle.std.proofs.Common.{◌∷◌, rules}
use Rattle.mq_levels.proofs.RoundLemmas.{next_taken, one_woken}
use Rattle.mq_levels.proofs.waiting.wake_one.Goals as goal

pub loop-node-preserved : goal.loop-node-preserved
loop-node-preserved g c =
    let reads = g.R.Reads.reads c.args.reads.now in (
      search rules,
      (
        c.in_ok-move_node.ensures.places,
        λ n others a moving. next_taken reads c.requires.reads n c.args.numbers.now a c.loop-node.waiters c.take.new.self c.move_node.new.waiters (c.args.read ∷ others) c.loop-node.ready.items c.move_node.new.ready.items c.args.read c.in-Some.node
            (c.loop-node.invariant.1.1 n others a moving) (search rules) (search rules) c.in-Some.ensures.taken.0 c.in-Some.ensures.taken.1 c.in-Some.ensures.free c.in_ok-move_node.ensures.went,
      ),
    )

pub returns-clause-woken : goal.returns-clause-woken
returns-clause-woken g c = λ n others a moving. one_woken (g.R.Reads.reads c.args.reads.now) n c.args.numbers.now c.take.new.self others c.loop-node.ready.items c.args.read (search rules) (search rules)
