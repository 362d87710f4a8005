-- One piece or one seat changes, and the rule stays.
use Rattle.std.proofs.Common.{◌≡◌, ◌≢◌, ◌⊎◌, ℕ, suc, ◌<◌, ◌≤◌, Bool, true, false, cond, eqb, eq-eqb, ne_eqb, Option, Some, None, List, [], ◌∷◌, ◌++◌, map, length, set, sym, refl, ap, ◌∙◌, subst, ⊎_elim, inl, inr, length-set, arith}
use Rattle.std.proofs.Common.{zero}
use mathlib.Core.Logic.{dite}
use mathlib.Core.Option as maybe
use mathlib.Core.Option.{some, some-injective, some-ne-none}
use native.Mathlib.Decide.{ℕ_discrete}
use lib.ListN.{get_elem?}
use Rattle.atomic_table.proofs.Lists.{at_set, set_else}
use Rattle.mq_claims.specs.declared.view.Entry.{Entry}
use Rattle.mq_claims.specs.declared.view.View.{View}
use Rattle.mq_claims.specs.Machine.{Status, claimed, Machine, machine, IsInHand}
use Rattle.mq_claims.specs.Views.{entry, under, with_piece}
use Rattle.mq_claims.specs.ViewLaws.{under-append}
use Rattle.mq_claims.specs.Rule.{listed, IsHome, Shows}
use Rattle.mq_claims.proofs.ListLemmas.{same}

pub off : {A : Type 0} {b : Bool} → b ≡ false → b ≡ true → A
off e f = absurd (Rattle.std.proofs.Common.true≢false (sym f ∙ e))

module _ {A : Type 0} where
  pub set_twice : (l : List A) (i : ℕ) (a b : A) → set (set l i a) i b ≡ set l i b
  set_twice [] i a b = refl
  set_twice (x ∷ xs) zero a b = refl
  set_twice (x ∷ xs) (suc i) a b = ap (λ (l : List A). x ∷ l) (set_twice xs i a b)

  pub snoc_back : (l : List A) (a b : A) (j : ℕ) → get_elem? (l ++ a ∷ []) j ≡ some b
      → (get_elem? l j ≡ some b) ⊎ ((j ≡ length l) × (a ≡ b))
  snoc_back [] a b zero e = inr (refl, some-injective a b e)
  snoc_back [] a b (suc j) e = absurd (some-ne-none b (sym e))
  snoc_back (x ∷ xs) a b zero e = inl e
  snoc_back (x ∷ xs) a b (suc j) e = ⊎_elim (λ h. inl h) (λ h. inr (ap suc h.0, h.1)) (snoc_back xs a b j e)

module _ {P : Type 0} where
  pub under_here : (k : ℕ) (x : Option P) (es : List (Entry P)) → under k (entry k x ∷ es) ≡ x ∷ under k es
  under_here k x es = ap (λ (t : Bool). cond t (x ∷ under k es) (under k es)) (eq-eqb k k refl)

  pub under_else : (j k : ℕ) (x : Option P) (es : List (Entry P)) → j ≢ k → under j (entry k x ∷ es) ≡ under j es
  under_else j k x es ne = ap (λ (t : Bool). cond t (x ∷ under j es) (under j es)) (ne_eqb k j (λ e. ne (sym e)))

  pub put_here : (k : ℕ) (p : P) (es : List (Entry P)) → under k (map (with_piece k p) es) ≡ map (λ (x : Option P). Some p) (under k es)
  put_here k p [] = refl
  put_here k p (e ∷ es) = dite (ℕ_discrete e.number k)
      (λ is. let t : eqb e.number k ≡ true = eq-eqb e.number k is in
      ap (λ (b : Bool). under k (cond b (entry k (Some p)) e ∷ map (with_piece k p) es)) t
      ∙ under_here k (Some p) (map (with_piece k p) es) ∙ ap (λ (l : List (Option P)). Some p ∷ l) (put_here k p es)
      ∙ sym (ap (λ (b : Bool). map (λ (x : Option P). Some p) (cond b (e.piece ∷ under k es) (under k es))) t))
      (λ ne. let f : eqb e.number k ≡ false = ne_eqb e.number k ne in
      ap (λ (b : Bool). under k (cond b (entry k (Some p)) e ∷ map (with_piece k p) es)) f ∙ ap
      (λ (b : Bool). cond b (e.piece ∷ under k (map (with_piece k p) es)) (under k (map (with_piece k p) es))) f
      ∙ put_here k p es ∙ sym (ap (λ (b : Bool). map (λ (x : Option P). Some p) (cond b (e.piece ∷ under k es) (under k es))) f))

  pub put_else : (j k : ℕ) (p : P) (es : List (Entry P)) → j ≢ k → under j (map (with_piece k p) es) ≡ under j es
  put_else j k p [] ne = refl
  put_else j k p (e ∷ es) ne = dite (ℕ_discrete e.number k)
      (λ is. ap (λ (b : Bool). under j (cond b (entry k (Some p)) e ∷ map (with_piece k p) es)) (eq-eqb e.number k is)
      ∙ under_else j k (Some p) (map (with_piece k p) es) ne ∙ put_else j k p es ne
      ∙ sym (ap (λ (b : Bool). cond b (e.piece ∷ under j es) (under j es)) (ne_eqb e.number j (λ x. ne (sym x ∙ is)))))
      (λ no. ap (λ (b : Bool). under j (cond b (entry k (Some p)) e ∷ map (with_piece k p) es)) (ne_eqb e.number k no) ∙ ap
      (λ (l : List (Option P)). cond (eqb e.number j) (e.piece ∷ l) l) (put_else j k p es ne))

  module _ (handed : List P) where
    pub home_by : (pieces : List (Status P)) (homes homes' : List (maybe.Option (Option P))) (i : ℕ) (now : Status P)
        → ((k : ℕ) (st : Status P) → get_elem? pieces k ≡ some st → IsHome (get_elem? homes k) (get_elem? handed k) st)
        → ((k : ℕ) → k ≢ i → get_elem? homes' k ≡ get_elem? homes k) → IsHome (get_elem? homes' i) (get_elem? handed i) now
        → (k : ℕ) (st : Status P) → get_elem? (set pieces i now) k ≡ some st → IsHome (get_elem? homes' k) (get_elem? handed k) st
    home_by pieces homes homes' i now old keeps here k st e = ⊎_elim
        (λ (x : (k ≡ i) × (now ≡ st)). subst (IsHome (get_elem? homes' k) (get_elem? handed k)) x.1 (subst
        (λ (j : ℕ). IsHome (get_elem? homes' j) (get_elem? handed j) now) (sym x.0) here))
        (λ (x : (k ≢ i) × (get_elem? pieces k ≡ some st)). subst
        (λ (h : maybe.Option (maybe.Option (Option P))). IsHome h (get_elem? handed k) st) (sym (keeps k x.0)) (old k st x.1))
        (at_set pieces i k now st e)

    pub seat_by : (views : List (View P)) (m m' : Machine P) (id : ℕ) (w : View P) → ((j : ℕ) (v : View P) → get_elem? views j ≡ some v
        → Shows handed m j v) → Shows handed m' id w
        → ((j : ℕ) (v : View P) → j ≢ id → get_elem? views j ≡ some v → Shows handed m j v → Shows handed m' j v)
        → (j : ℕ) (v : View P) → get_elem? (set views id w) j ≡ some v → Shows handed m' j v
    seat_by views m m' id w old mine others j v e = ⊎_elim
        (λ (x : (j ≡ id) × (w ≡ v)). subst (Shows handed m' j) x.1 (subst (λ (i : ℕ). Shows handed m' i w) (sym x.0) mine))
        (λ (x : (j ≢ id) × (get_elem? views j ≡ some v)). others j v x.0 x.1 (old j v x.1))
        (at_set views id j w v e)

    -- a seat does not see what becomes of a piece that is not its own
    pub shows_else : (m : Machine P) (i next : ℕ) (before now : Status P) (id : ℕ) (v : View P) → get_elem? m.pieces i ≡ some before
        → listed id now ≡ listed id before → ¬ (IsInHand id now) → ¬ (IsInHand id before)
        → Shows handed m id v → Shows handed (machine next (set m.pieces i now) m.workers) id v
    shows_else m i next before now id v at alike not_now not_before s = record {
      same_handed = s.same_handed;
      as_worker = s.as_worker;
      lists = λ k st e. ⊎_elim
          (λ (x : (k ≡ i) × (now ≡ st)). ap (λ (j : ℕ). under j v.entries) x.0 ∙ s.lists i before at ∙ sym alike ∙ ap (listed id) x.1)
          (λ (x : (k ≢ i) × (get_elem? m.pieces k ≡ some st)). s.lists k st x.1) (at_set m.pieces i k now st e);
      no_more = λ k le. s.no_more k (let l = length-set m.pieces i now in omega arith);
      has_out = λ k st e mine. ⊎_elim
          (λ (x : (k ≡ i) × (now ≡ st)). absurd (not_now (subst (IsInHand id) (sym x.1) mine)))
          (λ (x : (k ≢ i) × (get_elem? m.pieces k ≡ some st)). s.has_out k st x.1 mine) (at_set m.pieces i k now st e);
      in_hand = λ busy. set_else m.pieces i v.hand now
          (λ is. not_before (subst (IsInHand id) (same m.pieces i (claimed id) before (ap (get_elem? m.pieces) (sym is)
          ∙ s.in_hand busy) at) refl)) ∙ s.in_hand busy;
      as_first = s.as_first;
    }
