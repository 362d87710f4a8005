use Rattle.std.proofs.Common.{◌++◌, reverse, ◌∙◌}
use Rattle.mq_auto_shape.proofs.NodeLemmas.{put_between}
use Rattle.mq_auto_shape.proofs.nodes.place.Goals as goal

pub returns : goal.returns
returns c =
    let step = c.in_ok-step_forth.ensures in
    put_between c.args.node c.step_forth.new.before.items c.step_forth.new.behind.items c.push.new.self.items
    (c.args.before.now.items ++ reverse c.args.behind.now.items) c.in_ok-push.ensures.items (step.line ∙ c.forth.invariant.line) step.before
    (step.parted c.if-branch-2.false) c.requires.lacking
