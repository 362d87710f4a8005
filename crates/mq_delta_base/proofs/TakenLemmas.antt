-- What the walk over tuples keeps: those of which all conditions are true, as far as none faults and there is room.
use Rattle.std.proofs.Common.{◌≡◌, ℕ, zero, suc, ◌<◌, ◌≤◌, Bool, true, false, cond, List, [], ◌∷◌, ◌++◌, map, length, Result, Ok, Err, refl, sym, ap, subst, ◌∙◌, ◌⊎◌, inl, inr, ⊎_elim, append_assoc, length-append, arith}
use Rattle.std.specs.Prelude.{nat_lt, if◌then◌else◌}
use Rattle.std.specs.List.{filter}
use Rattle.std.proofs.lemmas.Bool.{ltb-true, lt-ltb}
use Rattle.mq_values.specs.declared.faults.FaultKind.{FaultKind}
use Rattle.mq_values.specs.declared.faults.FaultKind.TheVariants as kind
use Rattle.mq_values.specs.declared.limits.TheConstants.{MAX_BASE_ROWS}
use Rattle.mq_ir.specs.declared.query.FromPart.{FromPart}
use Rattle.mq_ir.specs.BaseRows.{Places, row_step, with_row}
use Rattle.mq_ir.specs.Keys.{Tuple}
use Rattle.mq_ir.specs.Results.{◌>>=◌, each_in_turn}
use Rattle.mq_delta_base.specs.Sets.{In}
use Rattle.mq_delta_base.specs.Verdicts.{IsCalm, is_yes, limited, verdict}

abbrev places_ok : List Places → Result (List Places) FaultKind
places_ok kept = Ok kept

pub tri : (p q : ℕ) → (p < q) ⊎ ((p ≡ q) ⊎ (q < p))
tri zero zero = inr (inl refl)
tri zero (suc q) = inl (omega arith)
tri (suc p) zero = inr (inr (omega arith))
tri (suc p) (suc q) = ⊎_elim (λ l. inl (omega (arith, l))) (λ r. ⊎_elim (λ e. inr (inl (ap suc e))) (λ l. inr (inr (omega (arith, l)))) r) (tri p q)

append_none : (l : List Places) → l ++ [] ≡ l
append_none [] = refl
append_none (x ∷ l) = ap (λ m. x ∷ m) (append_none l)

module _ (from : FromPart) (items : List (List Tuple)) where
  abbrev taken : Places → Bool
  taken t = is_yes (verdict from items t)

  abbrev Walks : List Places → List Places → List Places → Type 0
  Walks ts kept out = (out ≡ kept ++ filter taken ts) × ((t : Places) → In t ts → IsCalm (verdict from items t)) × (length out ≤ MAX_BASE_ROWS)

  -- a walk that gives tuples met no fault, and gives those that are taken
  pub walked : (ts kept out : List Places) → length kept ≤ MAX_BASE_ROWS → each_in_turn (row_step from items) ts kept ≡ Ok out → Walks ts kept out
  walked [] kept out n h = let e : kept ≡ out = cc in (sym e ∙ sym (append_none kept), (λ t i. elim i [ ]), subst (λ (l : List Places). length l ≤ MAX_BASE_ROWS) e n)
  walked (t ∷ ts) kept out n h = by (verdict from items t) refl h (walked ts)
    where
      Rest : Type 0
      Rest = (kept out : List Places) → length kept ≤ MAX_BASE_ROWS → each_in_turn (row_step from items) ts kept ≡ Ok out → Walks ts kept out

      calm : (b : Bool) → verdict from items t ≡ Ok b → ((u : Places) → In u ts → IsCalm (verdict from items u)) → (u : Places) → (u ≡ t) ⊎ In u ts → IsCalm (verdict from items u)
      calm b e h u (inl p) = (b, ap (verdict from items) p ∙ e)
      calm b e h u (inr i) = h u i

      roomy : (r : Bool) → nat_lt (length kept) MAX_BASE_ROWS ≡ r → verdict from items t ≡ Ok true
          → ((if r then places_ok (kept ++ t ∷ []) else Err kind.TooManyRows) >>= each_in_turn (row_step from items) ts) ≡ Ok out → Rest
          → (out ≡ kept ++ cond true (t ∷ filter taken ts) (filter taken ts)) × ((u : Places) → (u ≡ t) ⊎ In u ts → IsCalm (verdict from items u)) × (length out ≤ MAX_BASE_ROWS)
      roomy true l e h rest =
          let few : length kept < MAX_BASE_ROWS = ltb-true (length kept) MAX_BASE_ROWS l in
          let w = rest (kept ++ t ∷ []) out (omega (arith, few, length-append kept (t ∷ []))) h in
          (w.0 ∙ append_assoc kept (t ∷ []) (filter taken ts), calm true e w.1, w.2)
      roomy false l e h rest = absurd (cc)

      by : (v : Result Bool FaultKind) → verdict from items t ≡ v → ((v >>= (λ b. if b then with_row t kept else Ok kept)) >>= each_in_turn (row_step from items) ts) ≡ Ok out → Rest
          → (out ≡ kept ++ cond (is_yes (verdict from items t)) (t ∷ filter taken ts) (filter taken ts)) × ((u : Places) → (u ≡ t) ⊎ In u ts → IsCalm (verdict from items u)) × (length out ≤ MAX_BASE_ROWS)
      by (Ok true) e h rest =
          let w = roomy (nat_lt (length kept) MAX_BASE_ROWS) refl e h rest in
          (w.0 ∙ ap (λ v. kept ++ cond (is_yes v) (t ∷ filter taken ts) (filter taken ts)) (sym e), w.1, w.2)
      by (Ok false) e h rest =
          let w = rest kept out n h in
          (w.0 ∙ ap (λ v. kept ++ cond (is_yes v) (t ∷ filter taken ts) (filter taken ts)) (sym e), calm false e w.1, w.2)
      by (Err f) e h rest = absurd (cc)

  limit_by : (kept : List Places) (r : Bool) → nat_lt MAX_BASE_ROWS (length kept) ≡ r → length kept ≤ MAX_BASE_ROWS → (if r then Err kind.TooManyRows else places_ok kept) ≡ Ok kept
  limit_by kept true e n = let l = ltb-true MAX_BASE_ROWS (length kept) e in absurd (omega (arith, l, n))
  limit_by kept false e n = refl

  -- a walk that meets no fault gives the tuples that are taken, if there is room for them
  pub walk_is : (ts kept : List Places) → length kept ≤ MAX_BASE_ROWS → ((t : Places) → In t ts → IsCalm (verdict from items t))
      → each_in_turn (row_step from items) ts kept ≡ limited (kept ++ filter taken ts)
  walk_is [] kept n h =
      let e = append_none kept in
      sym (limit_by kept (nat_lt MAX_BASE_ROWS (length kept)) refl n) ∙ ap limited (sym e)
  walk_is (t ∷ ts) kept n h = by (verdict from items t) refl (h t (inl refl)) (λ more m. walk_is ts more m (λ u i. h u (inr i)))
    where
      Rest : Type 0
      Rest = (kept : List Places) → length kept ≤ MAX_BASE_ROWS → each_in_turn (row_step from items) ts kept ≡ limited (kept ++ filter taken ts)

      roomy : (r : Bool) → nat_lt (length kept) MAX_BASE_ROWS ≡ r → Rest
          → ((if r then places_ok (kept ++ t ∷ []) else Err kind.TooManyRows) >>= each_in_turn (row_step from items) ts) ≡ limited (kept ++ t ∷ filter taken ts)
      roomy true l rest =
          let few : length kept < MAX_BASE_ROWS = ltb-true (length kept) MAX_BASE_ROWS l in
          rest (kept ++ t ∷ []) (omega (arith, few, length-append kept (t ∷ []))) ∙ ap limited (append_assoc kept (t ∷ []) (filter taken ts))
      roomy false l rest =
          let full : MAX_BASE_ROWS < length (kept ++ t ∷ filter taken ts) = omega (arith, length-append kept (t ∷ filter taken ts), not_less (length kept) l) in
          ap (λ b. if b then Err kind.TooManyRows else places_ok (kept ++ t ∷ filter taken ts)) (sym (lt-ltb MAX_BASE_ROWS (length (kept ++ t ∷ filter taken ts)) full))
        where
          not_less : (a : ℕ) → nat_lt a MAX_BASE_ROWS ≡ false → MAX_BASE_ROWS ≤ a
          not_less a e = ⊎_elim (λ l. let k : true ≡ false = sym (lt-ltb a MAX_BASE_ROWS l) ∙ e in absurd (cc)) (λ r. ⊎_elim (λ p. omega (arith, p)) (λ l. omega (arith, l)) r) (tri a MAX_BASE_ROWS)

      by : (v : Result Bool FaultKind) → verdict from items t ≡ v → IsCalm (verdict from items t) → Rest
          → ((v >>= (λ b. if b then with_row t kept else Ok kept)) >>= each_in_turn (row_step from items) ts) ≡ limited (kept ++ cond (is_yes (verdict from items t)) (t ∷ filter taken ts) (filter taken ts))
      by (Ok true) e c rest =
          roomy (nat_lt (length kept) MAX_BASE_ROWS) refl rest ∙ ap (λ v. limited (kept ++ cond (is_yes v) (t ∷ filter taken ts) (filter taken ts))) (sym e)
      by (Ok false) e c rest = rest kept n ∙ ap (λ v. limited (kept ++ cond (is_yes v) (t ∷ filter taken ts) (filter taken ts))) (sym e)
      by (Err f) e c rest = let k : Err f ≡ Ok c.0 = sym e ∙ c.1 in absurd (cc)
