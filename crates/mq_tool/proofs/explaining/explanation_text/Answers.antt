use Rattle.std.proofs.Common.{◌≡◌, ℕ, List, [], ◌∷◌, ◌++◌, map, length, refl, sym, subst}
use Rattle.std.specs.Prelude.{slice_index_or}
use Rattle.mq_ir.specs.declared.query.DerivationStep.{DerivationStep}
use Rattle.mq_ir.specs.Explaining.{step_line}
use Rattle.mq_ir.specs.Lines.{FaultLine, StepCount, StepLine, text_of}
use Rattle.mq_tool.proofs.LineLemmas.{no_flaw_step}
use Rattle.mq_tool.proofs.explaining.explanation_text.Goals as goal

pub returns-in_ok-derivation_text-in-Steps : goal.returns-in_ok-derivation_text-in-Steps
returns-in_ok-derivation_text-in-Steps c =
    let part = c.args.model.now in
    let steps = c.in-Steps.derivation.steps in
    rw c.in-Steps.is (λ state. (
      (state, map (step_line part) steps ++ StepCount (length steps) ∷ []),
      refl,
      (refl, subst (λ (names : List (List ℕ)). c.derivation_text.new.out.items ≡ c.args.out.now.items ++ text_of (map (λ (step : DerivationStep). StepLine (slice_index_or names step.name.measure []) step) steps ++ StepCount (length steps) ∷ [])) c.as_slice.ensures c.in_ok-derivation_text-in-Steps.ensures.ok, sym (no_flaw_step part steps (length steps))),
    ))

pub returns-in_ok-answer_text-in-Fault : goal.returns-in_ok-answer_text-in-Fault
returns-in_ok-answer_text-in-Fault c =
    rw c.in-Fault.is (λ state. ((state, FaultLine c.in-Fault.fault ∷ []), refl, (refl, c.in_ok-answer_text-in-Fault.ensures.ok, refl)))

pub returns-in-NoPartition : goal.returns-in-NoPartition
returns-in-NoPartition c = rw c.in-NoPartition.is (λ state. (refl, refl, refl))

pub returns-in-NoCell : goal.returns-in-NoCell
returns-in-NoCell c = rw c.in-NoCell.is (λ state. (refl, refl, refl))
