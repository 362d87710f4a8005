use Rattle.std.proofs.Common.{◌≡◌, ◌<◌, Some, List, length, sym, ap, subst, slice_get, ◌∙◌}
use Rattle.std.specs.List.{All}
use Rattle.std.proofs.lemmas.List.Elements.{All-get_or}
use Rattle.std.proofs.lemmas.Option.{slice_get-get_or}
use Rattle.std.proofs.lemmas.Result.{on_ok_weaker}
use Rattle.mq_ir.specs.Shape.{Assignment}
use Rattle.mq_auto_shape.specs.Found.{IsRuled}
use Rattle.mq_auto.specs.Walks.{model_in}
use Rattle.mq_auto.proofs.WalkLemmas.{found_at}
use Rattle.mq_auto.proofs.walking.visit.Goals as goal

pub assign-requires-clause-ruled : goal.assign-requires-clause-ruled
assign-requires-clause-ruled g c =
    let model = model_in c.args.work.now in
    let xs = c.as_slice-assigned.result.now in
    let below = subst (λ (l : List Assignment). c.args.place < length l) (sym c.as_slice-assigned.ensures) c.requires.there in
    subst (IsRuled model) (sym c.index-assigned-place.is)
    (All-get_or (IsRuled model) xs c.args.place c.index-assigned-place.result below (subst (All (IsRuled model)) (sym c.as_slice-assigned.ensures) c.requires.ruled))

pub returns-clause-found : goal.returns-clause-found
returns-clause-found g c =
    let s = c.args.work.now.shape.now in
    let place = c.args.place in
    let a = c.index-assigned-place.result in
    let xs = c.as_slice-assigned.result.now in
    let below = subst (λ (l : List Assignment). place < length l) (sym c.as_slice-assigned.ensures) c.requires.there in
    let there : slice_get s.assigned place ≡ Some a =
    ap (λ (l : List Assignment). slice_get l place) (sym c.as_slice-assigned.ensures) ∙ slice_get-get_or xs place a below ∙ ap (λ (x : Assignment). Some x) (sym c.index-assigned-place.is) in
    on_ok_weaker c.assign.result
    (found_at (model_in c.args.work.now) s c.steps_read_their_looks.ensures c.requires.own (g.C.Cells.input c.args.cells.now) (g.C.Cells.results c.args.cells.now)
    (g.C.Cells.results c.assign.new.cells) place a there) c.assign.ensures.put
