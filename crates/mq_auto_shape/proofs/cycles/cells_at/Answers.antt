use Rattle.std.proofs.Common.{◌≡◌, ◌<◌, ℕ, ◌++◌, [], ◌∷◌, Some, get_or, length, map, slice_get, sym, ap, arith, length-append, ◌∙◌}
use Rattle.std.specs.List.{filter_map}
use Rattle.std.proofs.lemmas.Grind.{get_or_default_zero}
use Rattle.std.proofs.lemmas.List.Elements.{All-get_or}
use Rattle.std.proofs.lemmas.Option.{slice_get-get_or}
use Rattle.mq_ir.specs.Keys.{Tuple}
use Rattle.mq_ir.specs.Shape.{Assignment}
use Rattle.mq_auto_shape.specs.Outcomes.{by_rule}
use Rattle.mq_auto_shape.proofs.CycleLemmas.{cells_more}
use Rattle.mq_auto_shape.proofs.cycles.cells_at.Goals as goal

pub places-preserved : goal.places-preserved
places-preserved c =
    let assigned = c.args.assigned.now in
    let places = c.args.places.now in
    let cells = c.places.cells.items in
    let i = c.places.place-index in
    let lt = c.places-test.true in
    let a = c.index-assigned-place.result in
    let place : ℕ = get_or places i 0 in
    let below : place < length assigned = All-get_or (λ (p : ℕ). p < length assigned) places i 0 lt c.requires in
    let at : slice_get assigned place ≡ Some a = slice_get-get_or assigned place a below ∙ ap (λ (x : Assignment). Some x) (sym c.index-assigned-place.is) in
    record {
      cells =
          cells_more assigned places cells c.push.new.self.items (map by_rule (filter_map (slice_get assigned) places)) i place a lt
          (sym (get_or_default_zero places i place lt)) at
          (c.in_ok-push.ensures.items ∙ ap (λ (key : Tuple). cells ++ (a.2, key) ∷ []) c.in_ok-copy.ensures) c.places.invariant.cells;
      count = omega (arith, c.places.invariant.count, simp length-append at (ap length c.in_ok-push.ensures.items));
    }
