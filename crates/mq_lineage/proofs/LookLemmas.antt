-- Looks of which the measures are told.
use Rattle.std.proofs.Common.{◌≡◌, ℕ, ◌+◌, ◌<◌, ◌≤◌, Bool, true, false, ◌&&◌, ◌||◌, List, [], ◌∷◌, Some, cond, drop, length, get_or, refl, ap, ◌∙◌}
use Rattle.std.specs.Prelude.{is_some}
use Rattle.std.specs.List.{filter_map, find, list_all}
use Rattle.std.specs.Option.{option_map}
use Rattle.std.proofs.lemmas.List.{drop_all}
use Rattle.mq_values.specs.ListLaws.{next_item}
use Rattle.mq_ir.specs.declared.query.CellName.{CellName}
use Rattle.mq_ir.specs.declared.query.DerivationStep.{DerivationStep}
use Rattle.mq_ir.specs.declared.query.Look.{Look}
use Rattle.mq_ir.specs.declared.query.Look.TheVariants.{Measure, Presence}
use Rattle.mq_ir.specs.Derivations.{is_among_steps, is_same_measure, measure_of}
use Rattle.mq_cells.specs.Stores.{Results}
use Rattle.mq_lineage.specs.Telling.{AreTold, look_told}

-- those before place i are told, so it hangs on the others
pub record Told (results : Results) (looks : List Look) (i : ℕ) : Type 0 where
  pub rest : list_all (look_told results) looks ≡ list_all (look_told results) (drop i looks)

module _ (results : Results) (looks : List Look) where
  pub told_start : Told results looks 0
  told_start = record { rest = refl }

  at : (i : ℕ) (x : Look) (b : Bool) → i < length looks → x ≡ get_or looks i x → look_told results x ≡ b → Told results looks i
      → list_all (look_told results) looks ≡ (b && list_all (look_told results) (drop (i + 1) looks))
  at i x b h e t w =
      w.rest ∙ ap (list_all (look_told results)) (next_item looks i x h e) ∙ ap (λ c. c && list_all (look_told results) (drop (i + 1) looks)) t

  pub told_next : (i : ℕ) (x : Look) → i < length looks → x ≡ get_or looks i x → look_told results x ≡ true → Told results looks i → Told results looks (i + 1)
  told_next i x h e t w = record { rest = at i x true h e t w }

  pub told_stop : (i : ℕ) (x : Look) → i < length looks → x ≡ get_or looks i x → look_told results x ≡ false → Told results looks i
      → list_all (look_told results) looks ≡ false
  told_stop i x h e t w = at i x false h e t w

  pub told_end : (i : ℕ) → length looks ≤ i → Told results looks i → list_all (look_told results) looks ≡ true
  told_end i h w = w.rest ∙ ap (list_all (look_told results)) (drop_all i looks h)

-- a measure is told exactly where an earlier step is of it
told_at : (c : CellName) (earlier : List DerivationStep)
    → is_some (option_map (λ s. s.slot) (find (λ s. is_same_measure c s.name) earlier)) ≡ is_among_steps earlier c
told_at c [] = refl
told_at c (x ∷ xs) = by (is_same_measure c x.name) (told_at c xs)
  where
    by : (b : Bool) → is_some (option_map (λ s. s.slot) (find (λ s. is_same_measure c s.name) xs)) ≡ is_among_steps xs c
        → is_some (option_map (λ s. s.slot) (cond b (Some x) (find (λ s. is_same_measure c s.name) xs))) ≡ (b || is_among_steps xs c)
    by true h = refl
    by false h = h

-- all are told exactly where the measures among them are of earlier steps
pub told_among : (earlier : List DerivationStep) (results : Results) → AreTold earlier results → (looks : List Look)
    → list_all (look_told results) looks ≡ list_all (is_among_steps earlier) (filter_map measure_of looks)
told_among earlier results t [] = refl
told_among earlier results t (Measure c ∷ looks) =
    ap (λ b. b && list_all (look_told results) looks) (ap is_some (t.stand c) ∙ told_at c earlier)
    ∙ ap (λ b. is_among_steps earlier c && b) (told_among earlier results t looks)
told_among earlier results t (Presence key ∷ looks) = told_among earlier results t looks
