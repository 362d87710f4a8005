use Rattle.std.proofs.Common.{List, Some, length, slice_get, sym, ap, ◌∙◌}
use Rattle.std.specs.List.{filter_map}
use Rattle.std.specs.Option.{option_map}
use Rattle.std.proofs.lemmas.List.{nil_from_length}
use Rattle.mq_values.specs.declared.faults.FaultKind.TheVariants as kind
use Rattle.mq_ir.specs.Keys.{Tuple}
use Rattle.mq_ir.specs.Placed.{placed_fault}
use Rattle.mq_ir.specs.Shape.{Assignment, least_of}
use Rattle.mq_auto_shape.proofs.CycleLemmas.{cmp_pair, cycle_is, least_none, named}
use Rattle.mq_auto_shape.proofs.cycles.cycle_among.Goals as goal

pub returns-in-Some-clause-fault : goal.returns-in-Some-clause-fault
returns-in-Some-clause-fault c =
    let xs : List Assignment = filter_map (slice_get c.args.assigned.now) c.args.places.now in
    let cell = c.in-Some.cell.now in
    ap Some c.new.ensures ∙ ap (λ (key : Tuple). Some (placed_fault cell.0 key kind.Cycle)) c.in_ok-copy-in-Some.ensures
    ∙ ap (option_map named) (c.in-Some.ensures ∙ ap (least_of cmp_pair) (c.deref.ensures.value ∙ c.in_ok-cells.ensures.cells)) ∙ cycle_is xs

pub returns-clause-fault : goal.returns-clause-fault
returns-clause-fault c =
    let xs : List Assignment = filter_map (slice_get c.args.assigned.now) c.args.places.now in
    ap (option_map named) (c.in-None.ensures ∙ ap (least_of cmp_pair) (c.deref.ensures.value ∙ c.in_ok-cells.ensures.cells)) ∙ cycle_is xs

pub returns-clause-none : goal.returns-clause-none
returns-clause-none c =
    let none = least_none cmp_pair c.deref.result.now c.in-None.ensures in
    λ h. nil_from_length c.args.places.now (sym c.in_ok-cells.ensures.count ∙ ap length (sym c.deref.ensures.value ∙ none))
