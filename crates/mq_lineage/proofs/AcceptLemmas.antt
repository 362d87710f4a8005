-- Steps, accepted one after another.
use Rattle.std.proofs.Common.{◌≡◌, ℕ, ◌+◌, ◌<◌, ◌≤◌, Bool, true, false, List, [], ◌∷◌, None, drop, length, get_or, refl, sym, ◌∙◌, subst}
use Rattle.std.specs.Bool.{Decides}
use Rattle.std.proofs.lemmas.List.{drop_all}
use Rattle.mq_values.specs.ListLaws.{next_item}
use Rattle.mq_ir.specs.declared.query.CellName.{CellName}
use Rattle.mq_ir.specs.declared.query.DerivationStep.{DerivationStep}
use Rattle.mq_ir.specs.declared.query.PartShape.{PartShape}
use Rattle.mq_ir.specs.Derivations.{AreAccepted, IsAccepted}
use Rattle.mq_ir.specs.Partitions.{Cells}
use Rattle.mq_ir.specs.Unfolding.{Model}
use Rattle.mq_cells.specs.Stores.{Results}
use Rattle.mq_lineage.specs.Telling.{AreTold, Tells}
use Rattle.mq_lineage.proofs.ToldLemmas.{told_more, told_none}

-- the steps before place i are accepted and told, so it hangs on the others
pub record Taken (model : Model) (shape : PartShape) (input : Cells) (steps : List DerivationStep) (i : ℕ) (results : Results) : Type 0 where
  pub earlier : List DerivationStep
  pub told : AreTold earlier results
  pub behind : AreAccepted model shape input [] steps → AreAccepted model shape input earlier (drop i steps)
  pub back : AreAccepted model shape input earlier (drop i steps) → AreAccepted model shape input [] steps

module _ (model : Model) (shape : PartShape) (input : Cells) (steps : List DerivationStep) where
  pub take_start : (results : Results) → ((c : CellName) → results c ≡ None) → Taken model shape input steps 0 results
  take_start results h = record { earlier = []; told = told_none results h; behind = λ a. a; back = λ a. a }

  module _ (i : ℕ) (results : Results) (step : DerivationStep) (h : i < length steps) (e : step ≡ get_or steps i step) (w : Taken model shape input steps i results) where
    here : AreAccepted model shape input [] steps → IsAccepted model shape input w.earlier step × AreAccepted model shape input (step ∷ w.earlier) (drop (i + 1) steps)
    here a = subst (AreAccepted model shape input w.earlier) (next_item steps i step h e) (w.behind a)

    there : IsAccepted model shape input w.earlier step → AreAccepted model shape input (step ∷ w.earlier) (drop (i + 1) steps) → AreAccepted model shape input [] steps
    there s a = w.back (subst (AreAccepted model shape input w.earlier) (sym (next_item steps i step h e)) (s, a))

    pub take_next : (b : Bool) (after : Results) → Decides b (IsAccepted model shape input w.earlier step) → b ≡ true → Tells step results after
        → Taken model shape input steps (i + 1) after
    take_next b after d f t = record {
      earlier = step ∷ w.earlier;
      told = told_more w.earlier step results after w.told t;
      behind = λ a. (here a).1;
      back = there (d.0 f);
    }

    pub take_stop : (b : Bool) → Decides b (IsAccepted model shape input w.earlier step) → b ≡ false → Decides false (AreAccepted model shape input [] steps)
    take_stop b d f = (λ h. cc, λ a. let q : true ≡ false = sym (d.1 (here a).0) ∙ f in absurd (cc))

  pub take_end : (i : ℕ) (results : Results) → length steps ≤ i → Taken model shape input steps i results → Decides true (AreAccepted model shape input [] steps)
  take_end i results h w = (λ _. w.back (subst (AreAccepted model shape input w.earlier) (sym (drop_all i steps h)) tt), λ a. refl)
