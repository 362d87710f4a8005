use Rattle.std.proofs.Common.{List, [], sym, subst, ◌∙◌}
use Rattle.std.specs.List.Sorted.{IsStrictlySortedBy}
use Rattle.mq_values.specs.Order.{cmp_key}
use Rattle.mq_ir.specs.declared.query.DerivationStep.{DerivationStep}
use Rattle.mq_ir.specs.Derivations.{AreAccepted}
use Rattle.mq_ir.specs.Keys.{Tuple}
use Rattle.mq_ir.specs.Unfolding.{model_of}
use Rattle.mq_cells.specs.IndexedStores.{input_in, results_of}
use Rattle.mq_lineage.proofs.DeriveLemmas.{derivation_is}
use Rattle.mq_lineage.proofs.FoundLemmas.{is_found}
use Rattle.mq_lineage.proofs.derivations.derive_lent.Goals as goal

pub told_of-requires : goal.told_of-requires
told_of-requires c =
    let model = model_of c.args.m.now in
    let s = c.args.found.now.shape in
    record {
      cells = c.requires.indexed.cells;
      found =
          is_found model s.base s (c.shapes_are_sound.ensures model s.base s)
          (subst (λ (keys : List Tuple). IsStrictlySortedBy cmp_key keys) c.requires.indexed.base c.keys.ensures.ascending) c.requires.exact;
      rounds = c.requires.rounds;
    }

pub returns-clause-exact : goal.returns-clause-exact
returns-clause-exact c = λ input holds.
    derivation_is (model_of c.args.m.now) c.args.found.now.shape input (input_in c.args.cells.now) (results_of c.args.cells.now) holds c.args.target.now
    c.as_slice.result.now c.in_ok-steps.steps (c.as_slice.ensures ∙ c.in_ok-told.ensures) c.in_ok-steps.ensures

pub returns-clause-accepted : goal.returns-clause-accepted
returns-clause-accepted c = λ p holds found.
    let model = model_of c.args.m.now in
    let s = c.args.found.now.shape in
    let target = c.args.target.now in
    let is =
    derivation_is model s p.cells (input_in c.args.cells.now) (results_of c.args.cells.now) holds target
    c.as_slice.result.now c.in_ok-steps.steps (c.as_slice.ensures ∙ c.in_ok-told.ensures) c.in_ok-steps.ensures in
    subst (λ (steps : List DerivationStep). AreAccepted model s p.cells [] steps) (sym is) (c.derivations_are_accepted.ensures model p s target found)
