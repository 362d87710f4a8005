-- What every state of a run of the claim machine has.
use Rattle.std.proofs.Common.{◌≡◌, ◌≢◌, ℕ, zero, suc, ◌+◌, ◌<◌, ◌≤◌, min, Bool, true, false, cond, true≢false, eqb, eq-eqb, ne_eqb, List, [], ◌∷◌, ◌++◌, map, length, set, count_by, sym, refl, ap, ◌∙◌, ap₂, subst, ⊎_elim, length-set, length-append, arith}
use Rattle.std.proofs.lemmas.List.{length-map, length-replicate}
use Rattle.std.proofs.lemmas.Bool.{eqb-true}
use Rattle.std.proofs.Math.Nat.{min-eq_left, min-eq_right}
use mathlib.Core.Logic.{dite}
use mathlib.Core.Option.{some, some-injective, some-ne-none}
use native.Mathlib.Decide.{ℕ_discrete, dec_lt}
use lib.ListN.{get_elem?}
use Rattle.atomic_table.proofs.Lists.{at_set, set_here, set_else, at_longer, at_snoc}
use Rattle.mq_claims.specs.declared.limits.TheConstants.{MAX_SEATS}
use Rattle.mq_claims.specs.Machine.{Status, waiting, claimed, held, done, Worker, worker, Machine, Event, claiming, taking, putting, splitting, joining, machine, start, IsInHand, handed_over, Leads, Run, claims, claimers, is_latest, contents}
use Rattle.mq_claims.specs.MachineLaws.{is_done, is_in_hand, is_told}
use Rattle.mq_claims.proofs.ListLemmas.{there, inside, in_replicate, map_back, count-set, count-snoc, count-map, count-none}

pub untold : (a b : Bool) → worker a true ≡ worker b false → ⊥
untold a b e = true≢false (ap is_told e)

module _ {P : Type 0} where
  along : (I : List (Event P) → Machine P → Type 0) (n : ℕ) → I [] (start n) → ((e : Event P) (es : List (Event P)) (k m : Machine P)
      → I es k → Leads k e m → I (e ∷ es) m)
      → (es : List (Event P)) (m : Machine P) → Run (start n) es m → I es m
  along I n base step [] m run = subst (I []) (sym run) base
  along I n base step (e ∷ es) m run = step e es run.0 m (along I n base step es run.0 run.1) run.2

  -- what the events tell of a piece with the number k: how many claims there were, who claimed it, whose last claim it is, and what was put
  abbrev pub Tells : List Worker → ℕ → ℕ → List ℕ → (ℕ → Bool) → List P → Status P → Type 0
  Tells ws k c who latest what waiting = (c ≤ k) × (who ≡ []) × (what ≡ [])
  Tells ws k c who latest what (claimed w) = (k < c) × ((v : ℕ) × (who ≡ v ∷ [])) × (what ≡ []) × (latest w ≡ true) × (get_elem? ws w ≡ some (worker true false))
  Tells ws k c who latest what (held w) = (k < c) × ((v : ℕ) × (who ≡ v ∷ [])) × (what ≡ []) × (latest w ≡ true) × (get_elem? ws w ≡ some (worker true false))
  Tells ws k c who latest what (done w p) = (k < c) × ((v : ℕ) × (who ≡ v ∷ [])) × (what ≡ p ∷ []) × ((t : Bool) × (get_elem? ws w ≡ some (worker true t)))

  abbrev pub TellsAll : List Worker → List (Event P) → List (Status P) → Type 0
  TellsAll ws es pieces = (k : ℕ) (st : Status P) → get_elem? pieces k ≡ some st → Tells ws k (claims es) (claimers k es)
      (λ w. is_latest k w es) (contents k es) st

  pub record Sound (n : ℕ) (es : List (Event P)) (m : Machine P) : Type 0 where
    pub size : length m.pieces ≡ n
    pub counted : m.next ≡ claims es
    pub tells : TellsAll m.workers es m.pieces
    pub over : (w : ℕ) (live : Bool) → get_elem? m.workers w ≡ some (worker live true) → n < m.next
    pub bounded : m.next ≤ n + count_by is_told m.workers
    pub few : length m.workers ≤ MAX_SEATS
    pub adds_up : count_by is_done m.pieces + count_by is_in_hand m.pieces ≡ min n m.next

  -- a number is the last claim's of a worker for one number alone
  one_latest : (a b w : ℕ) (es : List (Event P)) → is_latest a w es ≡ true → b ≢ a → is_latest b w es ≡ false
  one_latest a b w [] e ne = refl
  one_latest a b w (claiming v ∷ es) e ne = go (λ x. one_latest a b w es x ne) (eqb v w) e
    where
      go : (is_latest a w es ≡ true → is_latest b w es ≡ false) → (t : Bool) → cond t (eqb (claims es) a) (is_latest a w es) ≡ true
          → cond t (eqb (claims es) b) (is_latest b w es) ≡ false
      go rest true x = ne_eqb (claims es) b (λ y. ne (sym y ∙ eqb-true (claims es) a x))
      go rest false x = rest x
  one_latest a b w (taking v ∷ es) e ne = one_latest a b w es e ne
  one_latest a b w (putting v p ∷ es) e ne = one_latest a b w es e ne
  one_latest a b w (splitting ∷ es) e ne = one_latest a b w es e ne
  one_latest a b w (joining u v ∷ es) e ne = one_latest a b w es e ne

  begins : (n : ℕ) → Sound n [] (start n)
  begins n = record {
    size = length-replicate n waiting;
    counted = refl;
    tells = λ k st e. subst (Tells (worker true false ∷ []) k 0 []
        (λ w. false) []) (in_replicate n k waiting st e) (omega arith, refl, refl);
    over = first;
    bounded = omega arith;
    few = omega arith;
    adds_up = (let a = count-none (is_done {P = P}) n waiting refl in let b = count-none (is_in_hand {P = P}) n waiting refl in
        let c : min n 0 ≡ 0 = min-eq_right (omega arith) in omega arith);
  }
    where
      first : (w : ℕ) (live : Bool) → get_elem? (worker true false ∷ []) w ≡ some (worker live true) → n < 0
      first zero live e = absurd (untold live true (sym (some-injective _ _ e)))
      first (suc w) live e = absurd (some-ne-none _ (sym e))

  -- who claimed a number, and whose last claim it is, after a claim of another number
  others_claimers : (k w : ℕ) (es : List (Event P)) → k ≢ claims es → claimers k (claiming w ∷ es) ≡ claimers k es
  others_claimers k w es ne = ap (λ (t : Bool). cond t (w ∷ claimers k es) (claimers k es)) (ne_eqb (claims es) k (λ e. ne (sym e)))

  claim_stays : (ws ws' : List Worker) (es : List (Event P)) (w k : ℕ) (t : Bool) (st : Status P) → k ≢ claims es → ¬ (IsInHand w st)
      → ((v : ℕ) → v ≢ w → get_elem? ws' v ≡ get_elem? ws v) → get_elem? ws' w ≡ some (worker true t)
      → Tells ws k (claims es) (claimers k es) (λ v. is_latest k v es) (contents k es) st
      → Tells ws' k (suc (claims es)) (claimers k (claiming w ∷ es)) (λ v. is_latest k v (claiming w ∷ es)) (contents k es) st
  claim_stays ws ws' es w k t st ne free keeps mine tells =
      subst (λ (who : List ℕ). Tells ws' k (suc (claims es)) who
      (λ v. is_latest k v (claiming w ∷ es)) (contents k es) st) (sym (others_claimers k w es ne)) (go st free tells)
    where
      mine_not : (v : ℕ) → ¬ (v ≡ w) → is_latest k v es ≡ true → is_latest k v (claiming w ∷ es) ≡ true
      mine_not v n e = ap (λ (t : Bool). cond t (eqb (claims es) k) (is_latest k v es)) (ne_eqb w v (λ e. n (sym e))) ∙ e

      go : (st : Status P) → ¬ (IsInHand w st) → Tells ws k (claims es) (claimers k es) (λ v. is_latest k v es) (contents k es) st
          → Tells ws' k (suc (claims es)) (claimers k es) (λ v. is_latest k v (claiming w ∷ es)) (contents k es) st
      go waiting free h = ((let le : claims es ≤ k = h.0 in omega arith), h.1, h.2)
      go (claimed v) free h = ((let lt : k < claims es = h.0 in omega arith), h.1, h.2, mine_not v free h.3, keeps v free ∙ h.4)
      go (held v) free h = ((let lt : k < claims es = h.0 in omega arith), h.1, h.2, mine_not v free h.3, keeps v free ∙ h.4)
      go (done v p) free h = (
        (let lt : k < claims es = h.0 in omega arith),
        h.1,
        h.2,
        dite (ℕ_discrete v w)
            (λ e. (t, ap (get_elem? ws') e ∙ mine)) (λ n. (h.3.0, keeps v n ∙ h.3.1)),
      )

  -- the piece that is next waits
  pub next_waits : (n : ℕ) (es : List (Event P)) (m : Machine P) → Sound n es m → m.next < length m.pieces
      → get_elem? m.pieces m.next ≡ some waiting
  next_waits n es m s lt = let at = there m.pieces m.next lt in at.1 ∙ ap some (go at.0 (s.tells m.next at.0 at.1))
    where
      go : (st : Status P) → Tells m.workers m.next (claims es) (claimers m.next es)
          (λ w. is_latest m.next w es) (contents m.next es) st → st ≡ waiting
      go waiting h = refl
      go (claimed w) h = let a : m.next < claims es = h.0 in let b = s.counted in absurd (omega arith)
      go (held w) h = let a : m.next < claims es = h.0 in let b = s.counted in absurd (omega arith)
      go (done w p) h = let a : m.next < claims es = h.0 in let b = s.counted in absurd (omega arith)

  claims_below : (n : ℕ) (es : List (Event P)) (m : Machine P) (w : ℕ) → Sound n es m → get_elem? m.workers w ≡ some (worker true false)
      → ((k : ℕ) (st : Status P) → get_elem? m.pieces k ≡ some st → ¬ (IsInHand w st)) → m.next < length m.pieces
      → Sound n (claiming w ∷ es) (machine (suc m.next) (set m.pieces m.next (claimed w)) m.workers)
  claims_below n es m w s lives free lt = record {
    size = length-set m.pieces m.next (claimed w) ∙ s.size;
    counted = ap suc s.counted;
    tells = tells;
    over = λ v live e. let a : n < m.next = s.over v live e in omega arith;
    bounded = (let a : length m.pieces ≡ n = s.size in omega arith);
    few = s.few;
    adds_up = (let a = count-set is_done m.pieces m.next waiting (claimed w) now in
        let b = count-set is_in_hand m.pieces m.next waiting (claimed w) now in let c = s.adds_up in
        let d : length m.pieces ≡ n = s.size in
        let e : min n m.next ≡ m.next = min-eq_right (omega arith) in
        let f : min n (suc m.next) ≡ suc m.next = min-eq_right (omega arith) in omega arith);
  }
    where
      now : get_elem? m.pieces m.next ≡ some waiting
      now = next_waits n es m s lt

      fresh : (k : ℕ) → k ≡ m.next → Tells m.workers k (suc (claims es)) (claimers k (claiming w ∷ es))
          (λ v. is_latest k v (claiming w ∷ es)) (contents k es) (claimed w)
      fresh k e = let old = s.tells m.next waiting now in let is : k ≡ claims es = e ∙ s.counted in
          let hit : eqb (claims es) k ≡ true = eq-eqb (claims es) k (sym is) in (
            omega arith,
            (
              w,
              ap (λ (t : Bool). cond t (w ∷ claimers k es) (claimers k es)) hit ∙ ap (λ (who : List ℕ). w ∷ who) (ap
                  (λ (i : ℕ). claimers i es) e ∙ old.1),
            ),
            ap (λ (i : ℕ). contents i es) e ∙ old.2,
            ap (λ (t : Bool). cond t (eqb (claims es) k) (is_latest k w es)) (eq-eqb w w refl) ∙ hit,
            lives,
          )

      tells : TellsAll m.workers (claiming w ∷ es) (set m.pieces m.next (claimed w))
      tells k st e = ⊎_elim
          (λ (x : (k ≡ m.next) × (claimed w ≡ st)). subst (Tells m.workers k (suc (claims es)) (claimers k (claiming w ∷ es))
          (λ v. is_latest k v (claiming w ∷ es)) (contents k es)) x.1 (fresh k x.0))
          (λ (x : (k ≢ m.next) × (get_elem? m.pieces k ≡ some st)). claim_stays m.workers m.workers es w k false st (λ is. x.0 (is
          ∙ sym s.counted)) (free k st x.1) (λ v ne. refl) lives (s.tells k st x.1))
          (at_set m.pieces m.next k (claimed w) st e)

  claims_beyond : (n : ℕ) (es : List (Event P)) (m : Machine P) (w : ℕ) → Sound n es m → get_elem? m.workers w ≡ some (worker true false)
      → ((k : ℕ) (st : Status P) → get_elem? m.pieces k ≡ some st → ¬ (IsInHand w st)) → length m.pieces ≤ m.next
      → Sound n (claiming w ∷ es) (machine (suc m.next) m.pieces (set m.workers w (worker true true)))
  claims_beyond n es m w s lives free ge = record {
    size = s.size;
    counted = ap suc s.counted;
    tells = λ k st e. let lt = inside m.pieces k st e in let c = s.counted in
        claim_stays m.workers (set m.workers w (worker true true)) es w k true st (λ is. omega arith) (free k st e)
        (λ v ne. set_else m.workers w v (worker true true) ne)
        (set_here m.workers w (worker true true) (inside m.workers w _ lives)) (s.tells k st e);
    over = λ v live e. let a : length m.pieces ≡ n = s.size in omega arith;
    bounded = (let a = count-set is_told m.workers w (worker true false) (worker true true) lives in let b = s.bounded in omega arith);
    few = (let a = length-set m.workers w (worker true true) in let b = s.few in omega arith);
    adds_up = (let c = s.adds_up in let d : length m.pieces ≡ n = s.size in
        let e : min n m.next ≡ n = min-eq_left (omega arith) in let f : min n (suc m.next) ≡ n = min-eq_left (omega arith) in c ∙ e
        ∙ sym f);
  }

  takes_it : (n : ℕ) (es : List (Event P)) (m : Machine P) (w i : ℕ) → Sound n es m → get_elem? m.pieces i ≡ some (claimed w)
      → Sound n (taking w ∷ es) (machine m.next (set m.pieces i (held w)) m.workers)
  takes_it n es m w i s at = record {
    size = length-set m.pieces i (held w) ∙ s.size;
    counted = s.counted;
    tells = tells;
    over = s.over;
    bounded = s.bounded;
    few = s.few;
    adds_up = (let a = count-set is_done m.pieces i (claimed w) (held w) at in
        let b = count-set is_in_hand m.pieces i (claimed w) (held w) at in let c = s.adds_up in
        let d : min n m.next ≡ min n m.next = refl in omega arith);
  }
    where
      tells : TellsAll m.workers (taking w ∷ es) (set m.pieces i (held w))
      tells k st e = ⊎_elim
          (λ (x : (k ≡ i) × (held w ≡ st)). subst (Tells m.workers k (claims es) (claimers k es)
          (λ v. is_latest k v es) (contents k es)) x.1 (s.tells k (claimed w) (ap (get_elem? m.pieces) x.0 ∙ at)))
          (λ (x : (k ≢ i) × (get_elem? m.pieces k ≡ some st)). s.tells k st x.1)
          (at_set m.pieces i k (held w) st e)

  puts_it : (n : ℕ) (es : List (Event P)) (m : Machine P) (w i : ℕ) (p : P) → Sound n es m → get_elem? m.pieces i ≡ some (held w)
      → Sound n (putting w p ∷ es) (machine m.next (set m.pieces i (done w p)) m.workers)
  puts_it n es m w i p s at = record {
    size = length-set m.pieces i (done w p) ∙ s.size;
    counted = s.counted;
    tells = tells;
    over = s.over;
    bounded = s.bounded;
    few = s.few;
    adds_up = (let a = count-set is_done m.pieces i (held w) (done w p) at in
        let b = count-set is_in_hand m.pieces i (held w) (done w p) at in let c = s.adds_up in omega arith);
  }
    where
      old : Tells m.workers i (claims es) (claimers i es) (λ v. is_latest i v es) (contents i es) (held w)
      old = s.tells i (held w) at

      tells : TellsAll m.workers (putting w p ∷ es) (set m.pieces i (done w p))
      tells k st e = ⊎_elim
          (λ (x : (k ≡ i) × (done w p ≡ st)). subst (Tells m.workers k (claims es) (claimers k es)
          (λ v. is_latest k v es) (contents k (putting w p ∷ es))) x.1
          (subst (λ (j : ℕ). Tells m.workers j (claims es) (claimers j es)
          (λ v. is_latest j v es) (contents j (putting w p ∷ es)) (done w p)) (sym x.0) (
            old.0,
            old.1,
            ap (λ (t : Bool). cond t (p ∷ contents i es) (contents i es)) old.3 ∙ ap
                (λ (ps : List P). p ∷ ps) old.2,
            (false, old.4),
          )))
          (λ (x : (k ≢ i) × (get_elem? m.pieces k ≡ some st)). subst (λ (ps : List P). Tells m.workers k (claims es) (claimers k es)
          (λ v. is_latest k v es) ps st)
          (sym (ap (λ (t : Bool). cond t (p ∷ contents k es) (contents k es)) (one_latest i k w es old.3 x.0))) (s.tells k st x.1))
          (at_set m.pieces i k (done w p) st e)

  module _ (ws ws' : List Worker) (k c : ℕ) (who : List ℕ) (latest : ℕ → Bool) (what : List P) where
    tells_wider : ((v : ℕ) (x : Worker) → get_elem? ws v ≡ some x → get_elem? ws' v ≡ some x) → (st : Status P)
        → Tells ws k c who latest what st → Tells ws' k c who latest what st
    tells_wider keeps waiting h = h
    tells_wider keeps (claimed w) h = (h.0, h.1, h.2, h.3, keeps w (worker true false) h.4)
    tells_wider keeps (held w) h = (h.0, h.1, h.2, h.3, keeps w (worker true false) h.4)
    tells_wider keeps (done w p) h = (h.0, h.1, h.2, (h.3.0, keeps w (worker true h.3.0) h.3.1))

    tells_handed : (v w : ℕ) (t : Bool) → v ≢ w → get_elem? ws v ≡ some (worker true t) → get_elem? ws w ≡ some (worker true true)
        → ((u : ℕ) → u ≢ w → get_elem? ws' u ≡ get_elem? ws u)
        → (st : Status P) → Tells ws k c who latest what st → Tells ws' k c who latest what (handed_over v w st)
    tells_handed v w t ne into from keeps waiting h = h
    tells_handed v w t ne into from keeps (claimed u) h = (
      h.0,
      h.1,
      h.2,
      h.3,
      keeps u
          (λ e. untold true true (some-injective _ _ (sym from ∙ ap (get_elem? ws) (sym e) ∙ h.4))) ∙ h.4,
    )
    tells_handed v w t ne into from keeps (held u) h = (
      h.0,
      h.1,
      h.2,
      h.3,
      keeps u
          (λ e. untold true true (some-injective _ _ (sym from ∙ ap (get_elem? ws) (sym e) ∙ h.4))) ∙ h.4,
    )
    tells_handed v w t ne into from keeps (done u p) h = (
      h.0,
      h.1,
      h.2,
      dite (ℕ_discrete u w)
          (λ e. (t, ap (λ (x : Bool). get_elem? ws' (cond x v u)) (eq-eqb u w e) ∙ keeps v ne ∙ into))
          (λ n. (h.3.0, ap (λ (x : Bool). get_elem? ws' (cond x v u)) (ne_eqb u w n) ∙ keeps u n ∙ h.3.1)),
    )

  splits_it : (n : ℕ) (es : List (Event P)) (m : Machine P) → Sound n es m → length m.workers < MAX_SEATS
      → Sound n (splitting ∷ es) (machine m.next m.pieces (m.workers ++ worker true false ∷ []))
  splits_it n es m s room = record {
    size = s.size;
    counted = s.counted;
    tells = λ k st e. tells_wider m.workers (m.workers ++ worker true false ∷ []) k _ _ _ _
        (λ v x a. at_longer m.workers (worker true false ∷ []) v x a) st (s.tells k st e);
    over = λ v live e. ⊎_elim (s.over v live)
        (λ x. absurd (untold live true (sym x))) (at_snoc m.workers (worker true false) (worker live true) v e);
    bounded = (let a = count-snoc is_told m.workers (worker true false) in let b = s.bounded in omega arith);
    few = (let a = length-append m.workers (worker true false ∷ []) in omega arith);
    adds_up = s.adds_up;
  }

  pub is_done-handed : (v w : ℕ) (st : Status P) → is_done (handed_over v w st) ≡ is_done st
  is_done-handed v w waiting = refl
  is_done-handed v w (claimed u) = refl
  is_done-handed v w (held u) = refl
  is_done-handed v w (done u p) = refl

  is_in_hand-handed : (v w : ℕ) (st : Status P) → is_in_hand (handed_over v w st) ≡ is_in_hand st
  is_in_hand-handed v w waiting = refl
  is_in_hand-handed v w (claimed u) = refl
  is_in_hand-handed v w (held u) = refl
  is_in_hand-handed v w (done u p) = refl

  joins_it : (n : ℕ) (es : List (Event P)) (m : Machine P) (v w : ℕ) (t : Bool) → Sound n es m → v ≢ w
      → get_elem? m.workers v ≡ some (worker true t) → get_elem? m.workers w ≡ some (worker true true)
      → Sound n (joining v w ∷ es) (machine m.next (map (handed_over v w) m.pieces) (set m.workers w (worker false true)))
  joins_it n es m v w t s ne into from = record {
    size = length-map m.pieces (handed_over v w) ∙ s.size;
    counted = s.counted;
    tells = λ k st e. let b = map_back (handed_over v w) m.pieces k st e in subst (Tells ws' k (claims es) (claimers k es)
        (λ u. is_latest k u es) (contents k es)) b.2
        (tells_handed m.workers ws' k _ _ _ _ v w t ne into from
        (λ u n. set_else m.workers w u (worker false true) n) b.0 (s.tells k b.0 b.1));
    over = λ u live e. ⊎_elim (λ (x : (u ≡ w) × (worker false true ≡ worker live true)). s.over w true from)
        (λ (x : (u ≢ w) × (get_elem? m.workers u ≡ some (worker live true))). s.over u live x.1)
        (at_set m.workers w u (worker false true) (worker live true) e);
    bounded = (let a = count-set is_told m.workers w (worker true true) (worker false true) from in let b = s.bounded in omega arith);
    few = (let a = length-set m.workers w (worker false true) in let b = s.few in omega arith);
    adds_up = ap₂ (λ (a b : ℕ). a + b) (count-map is_done (handed_over v w) (is_done-handed v w) m.pieces) (count-map is_in_hand (handed_over v w) (is_in_hand-handed v w) m.pieces) ∙ s.adds_up;
  }
    where
      ws' : List Worker
      ws' = set m.workers w (worker false true)

  goes_on : (n : ℕ) (e : Event P) (es : List (Event P)) (k m : Machine P) → Sound n es k → Leads k e m → Sound n (e ∷ es) m
  goes_on n (claiming w) es k m s l = dite (dec_lt k.next (length k.pieces))
      (λ lt. subst (Sound n (claiming w ∷ es)) (sym (l.2 lt)) (claims_below n es k w s l.0 l.1 lt))
      (λ ge. let le : length k.pieces ≤ k.next = (let g = lt_of_not ge in omega arith) in subst (Sound n (claiming w ∷ es)) (sym (l.3 le)) (claims_beyond n es k w s l.0 l.1 le))
    where
      lt_of_not : {a b : ℕ} → ¬ (a < b) → b ≤ a
      lt_of_not h = omega (arith, h)
  goes_on n (taking w) es k m s l = subst (Sound n (taking w ∷ es)) (sym l.2) (takes_it n es k w l.0 s l.1)
  goes_on n (putting w p) es k m s l = subst (Sound n (putting w p ∷ es)) (sym l.2) (puts_it n es k w l.0 p s l.1)
  goes_on n splitting es k m s l = subst (Sound n (splitting ∷ es)) (sym l.2) (splits_it n es k s l.1)
  goes_on n (joining v w) es k m s l = subst (Sound n (joining v w ∷ es)) (sym l.3) (joins_it n es k v w l.1.0 s l.0 l.1.1 l.2)

  pub sound : (n : ℕ) (es : List (Event P)) (m : Machine P) → Run (start n) es m → Sound n es m
  sound n = along (Sound n) n (begins n) (goes_on n)
