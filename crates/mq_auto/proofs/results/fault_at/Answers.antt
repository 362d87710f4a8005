use Rattle.std.proofs.Common.{◌≡◌, ◌<◌, true, Some, List, length, slice_get, ap, sym, subst, ◌∙◌}
use Rattle.std.proofs.lemmas.Option.{slice_get-get_or, slice_get_within}
use Rattle.mq_values.specs.declared.faults.QueryFault.{QueryFault}
use Rattle.mq_ir.specs.declared.query.PartResult.TheVariants.{Fault}
use Rattle.mq_ir.specs.declared.query.Slot.{Slot}
use Rattle.mq_ir.specs.Placed.{at_partition}
use Rattle.mq_ir.specs.Shape.{Assignment}
use Rattle.mq_cells.specs.Stores.{is_faulted, slot_at}
use Rattle.mq_auto.proofs.FaultLemmas.{fault_made, faulted_slot, first_place}
use Rattle.mq_auto.proofs.results.fault_at.Goals as goal

pub bounds-assigned-at : goal.bounds-assigned-at
bounds-assigned-at g c =
    let first = first_place (g.C.Cells.input c.args.cells.now) (g.C.Cells.results c.args.cells.now) c.args.s.now.assigned c.args.at c.requires in
    subst (λ (l : List Assignment). c.args.at < length l) (sym c.as_slice-assigned.ensures) (slice_get_within c.args.s.now.assigned c.args.at first.item first.there)

pub fault_of-fault-requires : goal.fault_of-fault-requires
fault_of-fault-requires g c =
    let input = g.C.Cells.input c.args.cells.now in
    let results = g.C.Cells.results c.args.cells.now in
    let at = c.args.at in
    let xs = c.as_slice-assigned.result.now in
    let a = c.index-assigned-at.result in
    let first = first_place input results c.args.s.now.assigned at c.requires in
    let below : at < length xs = subst (λ (l : List Assignment). at < length l) (sym c.as_slice-assigned.ensures) (slice_get_within c.args.s.now.assigned at first.item first.there) in
    let there : slice_get xs at ≡ Some a = slice_get-get_or xs at a below ∙ ap (λ (x : Assignment). Some x) (sym c.index-assigned-at.is) in
    let both : Some first.item ≡ Some a = sym first.there ∙ ap (λ (l : List Assignment). slice_get l at) (sym c.as_slice-assigned.ensures) ∙ there in
    let one : first.item ≡ a = cc in
    ap (λ (s : Slot). is_faulted (Some s)) c.in_ok-slot.ensures.slot
    ∙ subst (λ (x : Assignment). is_faulted (Some (slot_at input results (record { key = x.0; measure = x.1 }))) ≡ true) one (faulted_slot input results first.item first.faulted)

-- what is made is the fault of this assignment
pub returns-clause-exact : goal.returns-clause-exact
returns-clause-exact g c =
    let input = g.C.Cells.input c.args.cells.now in
    let results = g.C.Cells.results c.args.cells.now in
    let at = c.args.at in
    let xs = c.as_slice-assigned.result.now in
    let a = c.index-assigned-at.result in
    let first = first_place input results c.args.s.now.assigned at c.requires in
    let below : at < length xs = subst (λ (l : List Assignment). at < length l) (sym c.as_slice-assigned.ensures) (slice_get_within c.args.s.now.assigned at first.item first.there) in
    let there : slice_get c.args.s.now.assigned at ≡ Some a =
    ap (λ (l : List Assignment). slice_get l at) (sym c.as_slice-assigned.ensures) ∙ slice_get-get_or xs at a below ∙ ap (λ (x : Assignment). Some x) (sym c.index-assigned-at.is) in
    ap (λ (f : QueryFault). Some (Fault f)) (c.at_partition.ensures ∙ ap (at_partition c.in_ok-partition.partition) c.new-placed.ensures)
    ∙ fault_made c.args.key.now (slot_at input results) c.args.s.now.assigned at a c.fault_of-fault.result c.kind_of.result c.in_ok-partition.partition c.in_ok-cell.cell (sym there)
    (sym c.fault_of-fault.ensures ∙ c.in_ok-slot.ensures.slot) c.kind_of.ensures c.in_ok-partition.ensures c.in_ok-cell.ensures
