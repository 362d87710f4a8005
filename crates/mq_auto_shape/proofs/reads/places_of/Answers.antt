use Rattle.std.proofs.Common.{◌≡◌, ◌+◌, ◌-◌, ◌<◌, true, Some, length, arith, sym, subst, ◌∙◌}
use Rattle.std.proofs.lemmas.List.Elements.{All-get_or}
use Rattle.mq_dim_index.specs.Places.{is_there}
use Rattle.mq_ir.specs.Shape.{Assignment}
use Rattle.mq_auto_shape.specs.Found.{AreThere}
use Rattle.mq_ir.specs.Keys.{Tuple}
use Rattle.mq_auto_shape.specs.Numbers.{NumberDiffers}
use Rattle.mq_auto_shape.proofs.EdgeLemmas.{places_next}
use Rattle.mq_auto_shape.proofs.reads.places_of.Goals as goal

pub put-requires : goal.put-requires
put-requires c =
    let xs = c.as_slice-assigned.result.now in
    let x = c.index-assigned-at.result in
    let cells = c.args.cells.now in
    let n = c.placing.at - 1 in
    let lt : n < length xs = omega (arith, c.placing-test.true, c.placing.invariant.within) in
    (λ i. is_there (c.placing.invariant.cells i) (c.as_slice.ensures i))
    ∙ subst (λ (a : Assignment). is_there cells a.0 ≡ true) (sym c.index-assigned-at.is)
    (All-get_or (λ (a : Assignment). is_there cells a.0 ≡ true) xs n x lt (subst (AreThere cells) (sym c.as_slice-assigned.ensures) c.requires))

pub placing-preserved : goal.placing-preserved
placing-preserved c =
    let xs = c.as_slice-assigned.result.now in
    let x = c.index-assigned-at.result in
    let before = c.placing.numbers in
    let after = c.put.new.self in
    let n = c.placing.at - 1 in
    let e : n + 1 ≡ c.placing.at = omega (arith, c.placing-test.true) in
    let lt : n < length xs = omega (arith, c.placing-test.true, c.placing.invariant.within) in
    record {
      cells = c.in_ok-put.ensures.same_keys ∙ c.placing.invariant.cells;
      within = omega (arith, lt);
      few = c.placing.invariant.few;
      found =
          places_next before after xs n c.placing.at x e lt c.index-assigned-at.is c.placing.invariant.found
          (subst (λ (key : Tuple). NumberDiffers before after key x.1 (Some n)) c.as_slice.ensures c.in_ok-put.ensures.ok);
    }
