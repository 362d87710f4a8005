use Rattle.std.proofs.Common.{sym, ap, ◌∙◌}
use Rattle.std.specs.Ordering.{is_lt}
use Rattle.mq_auto_shape.proofs.NodeLemmas.{before_more}
use Rattle.mq_auto_shape.proofs.nodes.step_forth.Goals as goal

pub returns-then-is_lt-clause-before : goal.returns-then-is_lt-clause-before
returns-then-is_lt-clause-before c =
    before_more c.args.node.now c.in-Some.next c.args.before.now.items c.push.new.self.items c.in_ok-push.ensures.items c.requires
    (sym (ap is_lt c.cmp_nodes.ensures) ∙ sym c.is_lt.ensures ∙ c.if-is_lt.true)
