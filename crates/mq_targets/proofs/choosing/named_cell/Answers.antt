use Rattle.std.proofs.Common.{◌≡◌, ◌∷◌, [], map, sym, ap, ◌∙◌}
use Rattle.std.specs.Prelude.{if◌then◌else◌}
use Rattle.std.proofs.lemmas.Result.{IfOk-weaker}
use Rattle.mq_ir.specs.Keys.{is_among}
use Rattle.mq_ir.specs.Partitions.{ascending}
use Rattle.mq_ir.specs.Targets.{cmp_targets, named, targets_in, value_of}
use Rattle.mq_targets.proofs.PlaceLemmas.{alone, the_named}
use Rattle.mq_targets.proofs.choosing.named_cell.Goals as goal

pub returns-in-Update-clause-cells : goal.returns-in-Update-clause-cells
returns-in-Update-clause-cells c =
    let left = c.args.left.now in
    let set = c.args.keys.now in
    let key : c.in_ok-key.key ≡ named left = c.in_ok-key.ensures ∙ ap (map value_of) c.as_slice.ensures in
    IfOk-weaker c.cell_if_there.result _ _
    (λ found e.
    e
    ∙ ap (λ k. if is_among set k then k ∷ [] else []) key
    ∙ sym (alone (cmp_targets left) (named left) (is_among set (named left)))
    ∙ sym (ap (ascending (cmp_targets left)) (the_named left set c.requires.positional c.requires.width c.cell_if_there.ensures.ascending))
    ∙ (λ i. ascending (cmp_targets left) (targets_in left (sym c.in-Update.is i) set)))
    c.cell_if_there.ensures.cells
