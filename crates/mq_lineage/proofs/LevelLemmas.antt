-- The round in which a measure is levelled first.
use Rattle.std.proofs.Common.{◌≡◌, ℕ, zero, suc, ◌+◌, ◌<◌, ◌≤◌, Bool, true, false, cond, Some, refl, sym, ap, subst, ◌∙◌, arith, inl, inr}
use Rattle.std.specs.Prelude.{unwrap_or}
use Rattle.std.specs.List.{find, range_with_len}
use Rattle.std.proofs.lemmas.Bool.{cases_lt}
use Rattle.mq_ir.specs.declared.query.CellName.{CellName}
use Rattle.mq_ir.specs.declared.query.Look.TheVariants.{Measure}
use Rattle.mq_ir.specs.declared.query.PartShape.{PartShape}
use Rattle.mq_ir.specs.AffectedLaws.{enough_rounds}
use Rattle.mq_ir.specs.Automatic.{node_looks, round_count}
use Rattle.mq_ir.specs.Derivations.{round_of}
use Rattle.mq_ir.specs.RoundLaws.{levelled_stays}
use Rattle.mq_ir.specs.Rounds.{levelled}
use Rattle.mq_ir.specs.Unfolding.{Model}

-- the first of n numbers from a on that passes
module _ (p : ℕ → Bool) where
  found : (n a d : ℕ) → d < n → p (a + d) ≡ true → ((j : ℕ) → j < a + d → p j ≡ false) → unwrap_or (find p (range_with_len a n)) 0 ≡ a + d
  found zero a d u h none = absurd (omega (arith, u))
  found (suc n) a zero u h none = by (p a) refl
    where
      by : (b : Bool) → p a ≡ b → unwrap_or (cond b (Some a) (find p (range_with_len (a + 1) n))) 0 ≡ a + zero
      by true e = omega arith
      by false e =
          let same : a ≡ a + zero = omega arith in
          let k : false ≡ true = sym e ∙ ap p same ∙ h in cc
  found (suc n) a (suc d) u h none =
      by (p a) refl
      (found n (a + 1) d (omega (arith, u)) (subst (λ k. p k ≡ true) step h) (λ j l. none j (omega (arith, l))))
    where
      step : a + suc d ≡ a + 1 + d
      step = omega arith

      by : (b : Bool) → p a ≡ b → unwrap_or (find p (range_with_len (a + 1) n)) 0 ≡ a + 1 + d
          → unwrap_or (cond b (Some a) (find p (range_with_len (a + 1) n))) 0 ≡ a + suc d
      by true e rest = let k : true ≡ false = sym e ∙ none a (omega arith) in cc
      by false e rest = rest ∙ sym step

module _ (model : Model) (shape : PartShape) where
  abbrev pub level : ℕ → CellName → Bool
  level n c = levelled (node_looks model shape) n (Measure c)

  pub level_stays : (n k : ℕ) → n ≤ k → (c : CellName) → level n c ≡ true → level k c ≡ true
  level_stays n k h c l = levelled_stays (node_looks model shape) n k h (Measure c) l

  not_before : (n j : ℕ) → j ≤ n → (c : CellName) → level n c ≡ false → level j c ≡ false
  not_before n j h c none = by (level j c) refl
    where
      by : (b : Bool) → level j c ≡ b → b ≡ false
      by true e = let k : true ≡ false = sym (level_stays j n h c e) ∙ none in cc
      by false e = refl

  -- a measure that is levelled behind a round, and not before, is of that round
  pub round_is : (n : ℕ) (c : CellName) → level (suc n) c ≡ true → level n c ≡ false → round_of model shape c ≡ suc n
  round_is n c h none = elim (cases_lt n (round_count shape)) [ inl l ↦ within l | inr g ↦ beyond g ]
    where
      within : n < round_count shape → round_of model shape c ≡ suc n
      within l =
          let same : 0 + suc n ≡ suc n = omega arith in
          found (λ k. level k c) (round_count shape + 1) 0 (suc n) (omega (arith, l)) (subst (λ k. level k c ≡ true) (sym same) h)
          (λ j k. not_before n j (omega (arith, k)) c none)
          ∙ same

      beyond : round_count shape ≤ n → round_of model shape c ≡ suc n
      beyond g =
          let enough = enough_rounds model shape (suc n) (Measure c) h in
          let k : true ≡ false = sym (level_stays (round_count shape) n g c enough) ∙ none in cc

  -- and one that is levelled within n rounds is of one of them
  pub round_within : (n : ℕ) (c : CellName) → level n c ≡ true → round_of model shape c ≤ n
  round_within zero c h =
      let first = found (λ k. level k c) (round_count shape + 1) 0 0 (omega arith) h (λ j k. absurd (omega (arith, k))) in
      omega (arith, first)
  round_within (suc n) c h = by (level n c) refl (round_within n c)
    where
      by : (b : Bool) → level n c ≡ b → (level n c ≡ true → round_of model shape c ≤ n) → round_of model shape c ≤ suc n
      by true e rest = let r = rest e in omega (arith, r)
      by false e rest = let r = round_is n c h e in omega (arith, r)
