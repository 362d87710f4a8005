use Rattle.std.proofs.Common.{sym, ap, ◌∙◌}
use Rattle.std.specs.List.{insert}
use Rattle.mq_ir.specs.Partitions.{placed}
use Rattle.mq_ir.specs.Shape.{Assignment, cmp_assignment}
use Rattle.mq_auto_shape.proofs.NodeLemmas.{put_strict}
use Rattle.mq_auto_shape.proofs.nodes.with_one.Goals as goal

pub returns-clause-strict : goal.returns-clause-strict
returns-clause-strict c =
    let x : Assignment = (c.args.key.now, c.args.m, c.args.number) in
    let same = c.deref.ensures.value in
    put_strict x c.args.nodes.items c.insert.new.self.items c.requires.strict c.requires.lacking
    (c.in_ok-insert-in-Err.ensures.items
    ∙ ap (λ k. insert c.args.nodes.items c.in-Err.at (k, c.args.m, c.args.number)) c.in_ok-copy-in-Err.ensures
    ∙ ap (λ l. insert l c.in-Err.at x) (sym same)
    ∙ c.in-Err.ensures.put c.args.number
    ∙ ap (placed cmp_assignment x) same)
