-- A number claimed last and its piece put; how far the numbers of a list reach.
use Rattle.std.proofs.Common.{◌≡◌, ℕ, suc, ◌≤◌, Bool, true, false, cond, eqb, eq-eqb, Some, None, List, [], ◌∷◌, map, sym, refl, ap, ap₂, ◌∙◌, arith}
use mathlib.Core.Logic.{dite}
use native.Mathlib.Decide.{dec_lt}
use Rattle.mq_claims.specs.declared.view.Entry.{Entry}
use Rattle.mq_claims.specs.Views.{entry, under, AllBelow, with_piece}
use Rattle.mq_workers.proofs.ListLemmas.{not_nil}

module _ {P : Type 0} where
  put_nowhere : (k : ℕ) (p : P) (es : List (Entry P)) → under k es ≡ [] → map (with_piece k p) es ≡ es
  put_nowhere k p [] none = refl
  put_nowhere k p (e ∷ es) none = go (eqb e.number k) (put_nowhere k p es) none
    where
      go : (t : Bool) → (under k es ≡ [] → map (with_piece k p) es ≡ es) → cond t (e.piece ∷ under k es) (under k es) ≡ []
          → cond t (entry k (Some p)) e ∷ map (with_piece k p) es ≡ e ∷ es
      go true rest none = not_nil e.piece (under k es) (sym none)
      go false rest none = ap (λ (l : List (Entry P)). e ∷ l) (rest none)

  -- the number claimed last is above all others, so its piece alone is set
  pub put_last : (k : ℕ) (p : P) (es : List (Entry P)) → AllBelow k es → map (with_piece k p) (entry k None ∷ es) ≡ entry k (Some p) ∷ es
  put_last k p es below = ap₂ (λ (x : Entry P) (l : List (Entry P)). x ∷ l) (ap
      (λ (t : Bool). cond t (entry k (Some p)) (entry k None)) (eq-eqb k k refl)) (put_nowhere k p es (below k (omega arith)))

  -- one more than the number claimed last
  abbrev pub reach : List (Entry P) → ℕ
  reach [] = 0
  reach (e ∷ es) = suc e.number

  pub reach_below : (k : ℕ) (es : List (Entry P)) → AllBelow k es → reach es ≤ k
  reach_below k [] below = omega arith
  reach_below k (e ∷ es) below = dite (dec_lt e.number k) (λ lt. omega (arith, lt))
      (λ no. not_nil e.piece (under e.number es) (sym (below e.number (omega (arith, no))) ∙ ap
      (λ (t : Bool). cond t (e.piece ∷ under e.number es) (under e.number es)) (eq-eqb e.number e.number refl)))
