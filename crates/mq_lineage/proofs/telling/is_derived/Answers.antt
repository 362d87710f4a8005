use Rattle.std.proofs.Common.{List, None, Some, sym, ap, ◌∙◌}
use Rattle.std.specs.Bool.{Decides}
use Rattle.std.specs.Prelude.{slice_get}
use Rattle.mq_ir.specs.declared.query.DerivationStep.{DerivationStep}
use Rattle.mq_ir.specs.Derivations.{IsDerived}
use Rattle.mq_ir.specs.Unfolding.{model_of}
use Rattle.mq_cells.specs.IndexedStores.{results_of}
use Rattle.mq_lineage.specs.Telling.{AreTold, IsMade}
use Rattle.mq_lineage.proofs.ToldLemmas.{derived, if_ok, not_derived, unruled}
use Rattle.mq_lineage.proofs.telling.is_derived.Goals as goal

pub returns-then-not-branch-clause-exact : goal.returns-then-not-branch-clause-exact
returns-then-not-branch-clause-exact c = λ earlier t.
    not_derived (model_of c.args.m.now) c.args.s.now earlier c.args.step.now c.args.number c.in_ok-is_assigned_by.field-0 (c.in_ok-is_assigned_by.ensures c.args.s.now c.requires) c.if-not-branch.true

pub returns-in-Some-clause-exact : goal.returns-in-Some-clause-exact
returns-in-Some-clause-exact c =
    let model = model_of c.args.m.now in
    let results = results_of c.args.cells.now in
    if_ok c.is_made.result (λ told. (earlier : List DerivationStep) → AreTold earlier results → Decides told (IsMade model c.args.s.now earlier c.args.step.now c.in-Some.rule.now))
    (λ told. (earlier : List DerivationStep) → AreTold earlier results → Decides told (IsDerived model c.args.s.now earlier c.args.step.now c.args.number))
    (λ told d earlier t. derived model c.args.s.now earlier c.args.step.now c.args.number c.in_ok-is_assigned_by.field-0 told (Some c.in-Some.rule.now)
    (c.in_ok-is_assigned_by.ensures c.args.s.now c.requires) c.if-not-branch.false (ap (slice_get model.part.rules) (sym c.saturating_sub.ensures) ∙ sym c.in-Some.ensures) (d earlier t))
    c.is_made.ensures.exact

pub returns-in-None-clause-exact : goal.returns-in-None-clause-exact
returns-in-None-clause-exact c = λ earlier t.
    let model = model_of c.args.m.now in
    derived model c.args.s.now earlier c.args.step.now c.args.number c.in_ok-is_assigned_by.field-0 c.is_same_slot.result None
    (c.in_ok-is_assigned_by.ensures c.args.s.now c.requires) c.if-not-branch.false (ap (slice_get model.part.rules) (sym c.saturating_sub.ensures) ∙ sym c.in-None.ensures)
    (unruled c.args.step.now c.is_same_slot.result c.is_same_slot.ensures)
