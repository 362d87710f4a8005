use Rattle.std.proofs.Common.{List, length, ap, sym, subst, ◌∙◌}
use Rattle.std.specs.List.{All, list_any}
use Rattle.mq_cells.specs.IndexedStores.{keys_in}
use Rattle.mq_ir.specs.Keys.{Tuple}
use Rattle.mq_ir.specs.Looks.{looks_of}
use Rattle.mq_ir.specs.Sequential.{is_of_other}
use Rattle.mq_ir.specs.Unfolding.{model_of}
use Rattle.mq_refs.specs.declared.parts.LookPart.{LookPart}
use Rattle.mq_refs.specs.LookParts.{is_within}
use Rattle.mq_refs.specs.Sites.{site_with}
use Rattle.mq_seq.proofs.SelfOrderLemmas.{past_by_parts}
use Rattle.mq_seq.proofs.self_order.looks_past.Goals as goal

pub any_of_other-requires : goal.any_of_other-requires
any_of_other-requires c =
    subst (λ (parts : List LookPart). All (is_within (length (keys_in c.store-cells.result.now))) parts) (sym c.as_slice.ensures) c.in_ok-parts.ensures.within

pub returns : goal.returns
returns c =
    let act = c.args.act.now in
    let right = act.rule.now.right in
    let target = c.args.target.now in
    let cells = keys_in c.store-cells.result.now in
    c.any_of_other.ensures
    ∙ past_by_parts c.args.targets.now c.args.set.now c.args.own.now act.rule.now.measure target c.in_ok-parts.parts c.as_slice.result.now cells
    (looks_of (site_with (model_of act.model.now) act.turn target cells) right) c.requires.set c.requires.own c.as_slice.ensures c.in_ok-parts.ensures.looks
    ∙ ap (λ (set : List Tuple). list_any (is_of_other c.args.targets.now act.rule.now.measure target) (looks_of (site_with (model_of act.model.now) act.turn target set) right))
    c.store-cells.ensures.keys
