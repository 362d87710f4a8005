-- The first round in which a measure is levelled.
use Rattle.std.proofs.Common.{◌≡◌, ℕ, zero, suc, ◌+◌, ◌<◌, ◌≤◌, Bool, true, false, List, cond, Some, refl, sym, ap, subst, ◌∙◌, arith}
use Rattle.std.specs.Prelude.{is_none, unwrap_or}
use Rattle.std.specs.List.{filter_map, find, range_with_len}
use Rattle.mq_ir.specs.declared.query.CellName.{CellName}
use Rattle.mq_ir.specs.declared.query.Look.{Look}
use Rattle.mq_ir.specs.declared.query.Look.TheVariants.{Measure}
use Rattle.mq_ir.specs.declared.query.PartShape.{PartShape}
use Rattle.mq_ir.specs.Affected.{looks_or_none}
use Rattle.mq_ir.specs.Automatic.{node_looks, round_count}
use Rattle.mq_ir.specs.Derivations.{measure_of, measures_looked_at, round_of}
use Rattle.mq_ir.specs.Rounds.{every_look, levelled}
use Rattle.mq_ir.specs.Unfolding.{Model}
use Rattle.mq_change_laws.specs.Sides.{is_levelled_in}
use Rattle.mq_derivation_laws.proofs.NameLemmas.{all_at, all_measures, has}

-- ---- the first of n numbers from a on that passes
module _ (p : ℕ → Bool) where
  abbrev first : ℕ → ℕ → ℕ
  first a n = unwrap_or (find p (range_with_len a n)) 0

  -- it is no later than any that passes
  first_low : (n a d : ℕ) → d < n → p (a + d) ≡ true → first a n ≤ a + d
  first_low zero a d u h = absurd (omega (arith, u))
  first_low (suc n) a zero u h = by (p a) refl
    where
      by : (b : Bool) → p a ≡ b → unwrap_or (cond b (Some a) (find p (range_with_len (a + 1) n))) 0 ≤ a + zero
      by true e = omega arith
      by false e =
          let same : a ≡ a + zero = omega arith in
          let k : false ≡ true = sym e ∙ ap p same ∙ h in
          cc
  first_low (suc n) a (suc d) u h =
      let same : a + suc d ≡ a + 1 + d = omega arith in
      by (p a) (first_low n (a + 1) d (omega (arith, u)) (subst (λ x. p x ≡ true) same h))
    where
      by : (b : Bool) → first (a + 1) n ≤ a + 1 + d → unwrap_or (cond b (Some a) (find p (range_with_len (a + 1) n))) 0 ≤ a + suc d
      by true rest = omega arith
      by false rest = omega (arith, rest)

  -- and passes, where any does
  first_passes : (n a d : ℕ) → d < n → p (a + d) ≡ true → p (first a n) ≡ true
  first_passes zero a d u h = absurd (omega (arith, u))
  first_passes (suc n) a zero u h = by (p a) refl
    where
      by : (b : Bool) → p a ≡ b → p (unwrap_or (cond b (Some a) (find p (range_with_len (a + 1) n))) 0) ≡ true
      by true e = e
      by false e =
          let same : a ≡ a + zero = omega arith in
          let k : false ≡ true = sym e ∙ ap p same ∙ h in
          cc
  first_passes (suc n) a (suc d) u h =
      let same : a + suc d ≡ a + 1 + d = omega arith in
      by (p a) refl (first_passes n (a + 1) d (omega (arith, u)) (subst (λ x. p x ≡ true) same h))
    where
      by : (b : Bool) → p a ≡ b → p (first (a + 1) n) ≡ true → p (unwrap_or (cond b (Some a) (find p (range_with_len (a + 1) n))) 0) ≡ true
      by true e rest = e
      by false e rest = rest

module _ (model : Model) (shape : PartShape) where
  abbrev levels : ℕ → Look → Bool
  levels = levelled (node_looks model shape)

  abbrev in_round : CellName → ℕ → Bool
  in_round c n = levelled (node_looks model shape) n (Measure c)

  round_low : (c : CellName) (k : ℕ) → k ≤ round_count shape → levels k (Measure c) ≡ true → round_of model shape c ≤ k
  round_low c k l h =
      let same : k ≡ 0 + k = omega arith in
      let low = first_low (in_round c) (round_count shape + 1) 0 k (omega (arith, l)) (subst (λ x. in_round c x ≡ true) same h) in
      omega (arith, low)

  round_levelled : (c : CellName) → is_levelled_in model shape (Measure c) ≡ true → levels (round_of model shape c) (Measure c) ≡ true
  round_levelled c h =
      let same : round_count shape ≡ 0 + round_count shape = omega arith in
      first_passes (in_round c) (round_count shape + 1) 0 (round_count shape) (omega arith) (subst (λ x. in_round c x ≡ true) same h)

  -- what a measure looks at is levelled in an earlier round
  pub earlier_round : (c m : CellName) (looks : List Look) → node_looks model shape (Measure c) ≡ Some looks
      → is_levelled_in model shape (Measure c) ≡ true → has (measures_looked_at model shape c) m ≡ true
      → round_of model shape m < round_of model shape c
  earlier_round c m looks e l h =
      by (round_of model shape c) (round_levelled c l) (round_low c (round_count shape) (omega arith) l)
    where
      looked_at : has (filter_map measure_of looks) m ≡ true
      looked_at = ap (λ o. has (filter_map measure_of (looks_or_none o)) m) (sym e) ∙ h

      by : (r : ℕ) → levels r (Measure c) ≡ true → r ≤ round_count shape → round_of model shape m < r
      by zero l u = let k : false ≡ true = ap is_none (sym e) ∙ l in cc
      by (suc k) l u =
          let each = all_measures (levels k) looks (ap (every_look (levels k)) (sym e) ∙ l) in
          let at : levels k (Measure m) ≡ true = all_at (λ n. levels k (Measure n)) m (filter_map measure_of looks) each looked_at in
          let low = round_low m k (omega (arith, u)) at in
          omega (arith, low)
