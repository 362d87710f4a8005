use Rattle.std.proofs.Common.{◌<◌, length, IsTrue, arith, rules}
use Rattle.std.specs.List.{All}
use Rattle.mq_levels.proofs.OutcomeLemmas.{nodes_all, nodes_at}
use Rattle.mq_levels.proofs.leveling.are_nodes.Goals as goal

pub returns-then-not-are_below : goal.returns-then-not-are_below
returns-then-not-are_below c = (
  λ e. search rules,
  λ h.
      let all : All (λ read. read < length c.args.reads.now) c.deref.result.now = rw c.deref.ensures.value (nodes_at c.args.reads.now h c.loop-list.list-index c.list-item.result (omega arith) c.list-item.is) in
      let yes : IsTrue c.are_below.result = c.are_below.ensures.1 all in
      search rules,
)

pub returns : goal.returns
returns c = (λ e. nodes_all c.args.reads.now c.loop-list.list-index (omega arith) c.loop-list.invariant, λ h. search rules)
