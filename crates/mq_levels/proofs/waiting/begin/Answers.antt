use Rattle.std.proofs.Common.{◌≡◌, ℕ, [], None, length, replicate, ap, ◌∙◌, arith}
use Rattle.std.proofs.lemmas.List.{length-replicate}
use Rattle.mq_levels.proofs.DealLemmas.{nil}
use Rattle.mq_levels.proofs.RoundLemmas.{next_begun, next_free}
use Rattle.mq_levels.proofs.waiting.begin.Goals as goal

pub begin_one-requires-clause-free : goal.begin_one-requires-clause-free
begin_one-requires-clause-free g c = next_free (g.R.Reads.reads c.args.reads.now) 0 (replicate (length (g.R.Reads.reads c.args.reads.now)) None) c.loop-node.node c.loop-node.waiters [] c.loop-node.ready.items c.loop-node.invariant.1

pub loop-node-preserved : goal.loop-node-preserved
loop-node-preserved g c =
    let reads = g.R.Reads.reads c.args.reads.now in
    let long : length c.loop-node.waiters ≡ length reads = c.loop-node.invariant.0 ∙ ap length c.requires.waiters ∙ length-replicate (length reads) (nil ℕ) in (
      c.in_ok-begin_one.ensures.long ∙ c.loop-node.invariant.0,
      next_begun reads c.requires.reads c.loop-node.waiters c.begin_one.new.waiters c.loop-node.ready.items c.begin_one.new.ready.items c.loop-node.node c.loop-node.invariant.1 long (omega arith) c.in_ok-begin_one.ensures.went,
    )
