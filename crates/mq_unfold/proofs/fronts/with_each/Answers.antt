use Rattle.std.proofs.Common.{◌≡◌, List, [], ◌∷◌, ◌++◌, map, sym, ◌∙◌}
use Rattle.mq_ir.specs.declared.query.SinglePlace.{SinglePlace}
use Rattle.mq_unfold.proofs.ListLemmas.{flat_map_on}
use Rattle.mq_unfold.proofs.fronts.with_each.Goals as goal

pub loop-front-preserved : goal.loop-front-preserved
loop-front-preserved c =
    let places = c.args.places.now in
    c.in_ok-push_each.ensures
    ∙ (λ i. c.loop-front.invariant i ++ map (λ x. c.as_slice.ensures i ++ x ∷ []) places)
    ∙ sym (flat_map_on (λ front. map (λ x. front ++ x ∷ []) places) c.args.fronts.now c.loop-front.front-index c.front-item.result c.loop-front-test.true c.front-item.is)
