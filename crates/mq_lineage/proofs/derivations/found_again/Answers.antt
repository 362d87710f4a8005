use Rattle.std.proofs.Common.{◌≡◌, List, Ok, Err, sym, ap, subst, ◌∙◌}
use Rattle.mq_ir.specs.declared.query.PartShape.{PartShape}
use Rattle.mq_ir.specs.Keys.{Tuple}
use Rattle.mq_ir.specs.Unfolding.{model_of}
use Rattle.mq_auto_shape.specs.Conditions.{AreReady}
use Rattle.mq_auto_shape.specs.Found.{AreRoundsOf, shape_meant}
use Rattle.mq_lineage.proofs.FoundLemmas.{is_found, never_fault, same_found}
use Rattle.mq_lineage.proofs.derivations.found_again.Goals as goal

pub indexed_shape_of-requires : goal.indexed_shape_of-requires
indexed_shape_of-requires c =
    record { ready = subst (AreReady c.args.m.now.part.now) (sym c.as_slice.ensures) c.requires.ready }

pub unreachable-requires : goal.unreachable-requires
unreachable-requires c =
    let model = model_of c.args.m.now in
    let base = c.args.s.now.base in
    let found = subst (λ (keys : List Tuple). Err c.in-Err.field-0 ≡ shape_meant model keys) c.as_slice.ensures (rw c.in-Err.is at c.in_ok-found.ensures.exact) in
    never_fault model base c.args.s.now c.in-Err.field-0 c.requires.found found

pub returns-clause-rounds : goal.returns-clause-rounds
returns-clause-rounds c =
    let model = model_of c.args.m.now in
    let again = c.in-Ok.it.shape in
    let found = subst (λ (keys : List Tuple). Ok again ≡ shape_meant model keys) c.as_slice.ensures (rw c.in-Ok.is at c.in_ok-found.ensures.exact) in
    subst (λ (s : PartShape). AreRoundsOf model s c.in-Ok.it.leveled.rounds)
    (same_found model c.args.s.now.base c.args.s.now again c.requires.found found) (rw c.in-Ok.is at c.in_ok-found.ensures.rounds)

pub returns-clause-cells : goal.returns-clause-cells
returns-clause-cells c =
    let model = model_of c.args.m.now in
    let again = c.in-Ok.it.shape in
    let found = subst (λ (keys : List Tuple). Ok again ≡ shape_meant model keys) c.as_slice.ensures (rw c.in-Ok.is at c.in_ok-found.ensures.exact) in
    (rw c.in-Ok.is at c.in_ok-found.ensures.indexed).cells
    ∙ ap (λ (s : PartShape). s.cells) (same_found model c.args.s.now.base c.args.s.now again c.requires.found found)

pub returns-clause-found : goal.returns-clause-found
returns-clause-found c =
    let s = c.args.s.now in
    is_found (model_of c.args.m.now) s.base s (c.shapes_are_sound.ensures (model_of c.args.m.now) s.base s) c.requires.ready.ascend c.requires.found
