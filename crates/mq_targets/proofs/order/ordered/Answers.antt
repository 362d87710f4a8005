use Rattle.std.proofs.Common.{◌≡◌, eqb, length, true, sym, ap, ◌∙◌}
use Rattle.std.proofs.lemmas.Result.{IfOk-weaker}
use Rattle.mq_ir.specs.Partitions.{ascending}
use Rattle.mq_targets.specs.Choice.{cmp_by}
use Rattle.mq_targets.proofs.OrderLemmas.{already_ascending, each_once}
use Rattle.mq_targets.proofs.PlaceLemmas.{empty_is}
use Rattle.mq_targets.proofs.order.ordered.Goals as goal

pub returns-then-is_empty : goal.returns-then-is_empty
returns-then-is_empty c =
    let none : eqb (length c.args.order.now) 0 ≡ true = cc in
    sym (ap (λ order. ascending (cmp_by order) c.args.keys.items) (empty_is c.args.order.now none) ∙ already_ascending c.args.keys.items c.requires)

pub returns : goal.returns
returns c =
    IfOk-weaker c.sorted.result _ _
    (λ found e. e ∙ ap (ascending (cmp_by c.args.order.now)) (each_once c.args.keys.items c.requires))
    c.sorted.ensures
