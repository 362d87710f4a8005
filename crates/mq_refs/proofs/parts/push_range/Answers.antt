use Rattle.std.proofs.Common.{◌++◌, List, sym, ap, ◌∙◌}
use Rattle.std.proofs.lemmas.List.{append-nil}
use Rattle.std.proofs.lemmas.Result.{on_ok_weaker}
use Rattle.mq_ir.specs.declared.query.Look.{Look}
use Rattle.mq_ir.specs.Keys.{Tuple}
use Rattle.mq_ir.specs.Reads.{range_named}
use Rattle.mq_refs.specs.LookParts.{looks_in}
use Rattle.mq_refs.specs.Sites.{site_over}
use Rattle.mq_refs.proofs.PartLemmas.{all_named, none_named}
use Rattle.mq_refs.proofs.parts.push_range.Goals as goal

pub returns-then-is_set-clause-looks : goal.returns-then-is_set-clause-looks
returns-then-is_set-clause-looks g c =
    let set = g.K.CellKeys.set c.args.keys.now in
    let named = range_named (site_over c.args.at.now set) c.args.places.now in
    on_ok_weaker c.push_cells.result
    (λ h. h
    ∙ ap (λ (looks : List Look). looks_in set c.args.parts.now ++ looks)
    (sym (all_named c.args.wanted.now c.args.measure (λ (keys : List Tuple). keys) named (sym c.is_set.ensures ∙ c.if-is_set.true))))
    c.push_cells.ensures.looks

pub returns-else-is_set-clause-looks : goal.returns-else-is_set-clause-looks
returns-else-is_set-clause-looks g c =
    let set = g.K.CellKeys.set c.args.keys.now in
    let named = range_named (site_over c.args.at.now set) c.args.places.now in
    sym
    (ap (λ (looks : List Look). looks_in set c.args.parts.now ++ looks)
    (none_named c.args.wanted.now c.args.measure (λ (keys : List Tuple). keys) named (sym c.is_set.ensures ∙ c.if-is_set.false))
    ∙ append-nil (looks_in set c.args.parts.now))
