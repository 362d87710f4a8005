use Rattle.std.proofs.Common.{◌-◌, reverse, take, sym, ap, ◌∙◌}
use Rattle.std.specs.Ordering.{is_lt}
use Rattle.mq_auto_shape.proofs.NodeLemmas.{back_parted, none_before}
use Rattle.mq_auto_shape.proofs.nodes.step_back.Goals as goal

pub returns-in_default-clause-parted : goal.returns-in_default-clause-parted
returns-in_default-clause-parted c = λ _.
    none_before c.args.node.now c.pop.new.self.items (c.in_default.ensures.rest ∙ ap (λ n. take (n - 1) c.args.before.now.items) c.in_default.ensures.cases.0)

pub returns-then-is_lt-clause-parted : goal.returns-then-is_lt-clause-parted
returns-then-is_lt-clause-parted c = λ _.
    back_parted c.args.node.now c.in-Some.last c.pop.new.self.items c.args.before.now.items (reverse c.args.behind.now.items) c.push.new.self.items
    c.in-Some.ensures.items c.in_ok-push.ensures.items c.requires
    (sym (ap is_lt c.cmp_nodes.ensures) ∙ sym c.is_lt.ensures ∙ c.if-is_lt.true)
