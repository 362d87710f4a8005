use Rattle.std.proofs.Common.{◌≡◌, ◌<◌, List, Some, length, slice_get, sym, ap, subst, ◌∙◌}
use Rattle.std.specs.List.{All, find}
use Rattle.std.proofs.lemmas.List.Elements.{All-get_or}
use Rattle.std.proofs.lemmas.Option.{slice_get-get_or}
use Rattle.mq_ir.specs.Shape.{Assignment, assigns}
use Rattle.mq_lineage.proofs.assigned.assigned_at.Goals as goal

pub returns-clause-there : goal.returns-clause-there
returns-clause-there c =
    let xs = c.as_slice-assigned.result.now in
    let a = c.index-assigned-place.result in
    let below : c.args.place < length xs = subst (λ (l : List Assignment). c.args.place < length l) (sym c.as_slice-assigned.ensures) c.requires.within in
    ap (λ (l : List Assignment). slice_get l c.args.place) (sym c.as_slice-assigned.ensures)
    ∙ slice_get-get_or xs c.args.place a below ∙ ap (λ (x : Assignment). Some x) (sym c.index-assigned-place.is)

pub returns-clause-own : goal.returns-clause-own
returns-clause-own c =
    let s = c.args.s.now in
    let xs = c.as_slice-assigned.result.now in
    let a = c.index-assigned-place.result in
    let below : c.args.place < length xs = subst (λ (l : List Assignment). c.args.place < length l) (sym c.as_slice-assigned.ensures) c.requires.within in
    subst (λ (x : Assignment). find (assigns x.1 x.0) s.assigned ≡ Some x) (sym c.index-assigned-place.is)
    (All-get_or (λ (x : Assignment). find (assigns x.1 x.0) s.assigned ≡ Some x) xs c.args.place a below
    (subst (All (λ (x : Assignment). find (assigns x.1 x.0) s.assigned ≡ Some x)) (sym c.as_slice-assigned.ensures) c.requires.own))
