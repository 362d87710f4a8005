use Rattle.std.proofs.Common.{List, [], sym, subst, ◌∙◌}
use Rattle.mq_ir.specs.declared.query.DerivationStep.{DerivationStep}
use Rattle.mq_ir.specs.Derivations.{AreAccepted}
use Rattle.mq_ir.specs.Unfolding.{model_of}
use Rattle.mq_lineage.proofs.DeriveLemmas.{derivation_is}
use Rattle.mq_lineage.proofs.derivations.derive.Goals as goal

pub told_of-requires : goal.told_of-requires
told_of-requires g c = record {
  cells = c.in_ok-found.ensures.cells;
  found = c.in_ok-found.ensures.found;
  rounds = c.in_ok-found.ensures.rounds;
}

pub returns-clause-exact : goal.returns-clause-exact
returns-clause-exact g c = λ input holds.
    derivation_is (model_of c.args.m.now) c.args.s.now input (g.C.Cells.input c.args.cells.now) (g.C.Cells.results c.args.cells.now) holds c.args.target.now
    c.as_slice.result.now c.in_ok-steps.steps (c.as_slice.ensures ∙ c.in_ok-told.ensures) c.in_ok-steps.ensures.steps

pub returns-clause-accepted : goal.returns-clause-accepted
returns-clause-accepted g c = λ p holds found.
    let model = model_of c.args.m.now in
    let s = c.args.s.now in
    let target = c.args.target.now in
    let is =
    derivation_is model s p.cells (g.C.Cells.input c.args.cells.now) (g.C.Cells.results c.args.cells.now) holds target
    c.as_slice.result.now c.in_ok-steps.steps (c.as_slice.ensures ∙ c.in_ok-told.ensures) c.in_ok-steps.ensures.steps in
    subst (λ (steps : List DerivationStep). AreAccepted model s p.cells [] steps) (sym is) (c.derivations_are_accepted.ensures model p s target found)
