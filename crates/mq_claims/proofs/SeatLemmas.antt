-- The first seat lends a seat out, and takes it back: both keep the rule.
use Rattle.std.proofs.Common.{◌≡◌, ◌≢◌, ℕ, suc, ◌+◌, ◌-◌, ◌<◌, ◌≤◌, Bool, true, false, cond, eqb, eq-eqb, ne_eqb, Option, Some, None, List, [], ◌∷◌, ◌++◌, map, length, get_or, set, count_by, sym, refl, ap, ap₂, ◌∙◌, subst, ⊎_elim, append-nil, length-set, length-append, arith}
use Rattle.std.proofs.lemmas.List.{length-map}
use mathlib.Core.Logic.{dite}
use mathlib.Core.Option as maybe
use mathlib.Core.Option.{some, none, some-injective}
use native.Mathlib.Decide.{ℕ_discrete, dec_lt}
use lib.ListN.{get_elem?}
use Rattle.atomic_table.specs.Table.{State, Me, step, keeps, Allows, Splits, Joins}
use Rattle.atomic_table.proofs.Lists.{at_set, set_here, set_else, set_again, at_longer, at_last, at_map}
use Rattle.mq_claims.specs.declared.view.View.{View}
use Rattle.mq_claims.specs.Machine.{Status, waiting, claimed, held, done, Worker, worker, Machine, machine, splitting, joining, IsInHand, handed_over, claims, claimers, is_latest, contents}
use Rattle.mq_claims.specs.MachineLaws.{is_done}
use Rattle.mq_claims.specs.Views.{newcomer, one_more_away, newcomer_of, joined, spent}
use Rattle.mq_claims.specs.Rule.{is_live, listed, IsHome, Shows, Follows, Looks}
use Rattle.mq_claims.proofs.ListLemmas.{there, inside, map_back, count-set, count-snoc, count-map}
use Rattle.mq_claims.proofs.RunLemmas.{untold, Tells, sound, is_done-handed}
use Rattle.mq_claims.specs.ViewLaws.{under-append}
use Rattle.mq_claims.proofs.RuleLemmas.{off, snoc_back, seat_by}

module _ {P : Type 0} where
  -- whose piece it is
  abbrev Owner : ℕ → Status P → Type 0
  Owner w waiting = ⊥
  Owner w (claimed v) = v ≡ w
  Owner w (held v) = v ≡ w
  Owner w (done v p) = v ≡ w

  not_listed : (id : ℕ) (st : Status P) → ¬ (Owner id st) → listed id st ≡ []
  not_listed id waiting other = refl
  not_listed id (claimed v) other = ap (λ (t : Bool). cond t (None ∷ []) []) (ne_eqb v id other)
  not_listed id (held v) other = ap (λ (t : Bool). cond t (None ∷ []) []) (ne_eqb v id other)
  not_listed id (done v p) other = ap (λ (t : Bool). cond t (Some p ∷ []) []) (ne_eqb v id other)

  in_hand_owns : (id : ℕ) (st : Status P) → IsInHand id st → Owner id st
  in_hand_owns id waiting e = absurd e
  in_hand_owns id (claimed v) e = e
  in_hand_owns id (held v) e = e
  in_hand_owns id (done v p) e = absurd e

  -- an owner is one of the workers
  owner_there : (ws : List Worker) (i c : ℕ) (who : List ℕ) (latest : ℕ → Bool) (what : List P) (st : Status P) (id : ℕ)
      → Tells ws i c who latest what st → Owner id st → id < length ws
  owner_there ws i c who latest what waiting id h o = absurd o
  owner_there ws i c who latest what (claimed v) id h o = subst (λ (j : ℕ). j < length ws) o (inside ws v _ h.4)
  owner_there ws i c who latest what (held v) id h o = subst (λ (j : ℕ). j < length ws) o (inside ws v _ h.4)
  owner_there ws i c who latest what (done v p) id h o = subst (λ (j : ℕ). j < length ws) o (inside ws v _ h.3.1)

  -- a worker that was told none has nothing in hand
  told_has_none : (ws : List Worker) (i c : ℕ) (who : List ℕ) (latest : ℕ → Bool) (what : List P) (st : Status P) (id : ℕ)
      → Tells ws i c who latest what st → get_elem? ws id ≡ some (worker true true) → ¬ (IsInHand id st)
  told_has_none ws i c who latest what waiting id h told o = o
  told_has_none ws i c who latest what (claimed v) id h told o = untold true true (some-injective _ _ (sym told
      ∙ ap (get_elem? ws) (sym o) ∙ h.4))
  told_has_none ws i c who latest what (held v) id h told o = untold true true (some-injective _ _ (sym told
      ∙ ap (get_elem? ws) (sym o) ∙ h.4))
  told_has_none ws i c who latest what (done v p) id h told o = o

  module _ (handed : List P) where
    abbrev S : Type 0
    S = State (Option P) (View P)

    module _ (s : S) (k : Follows handed s) where
      tells : (i : ℕ) (st : Status P) → get_elem? k.machine.pieces i ≡ some st
          → Tells k.machine.workers i (claims k.events) (claimers i k.events) (λ w. is_latest i w k.events) (contents i k.events) st
      tells = (sound _ _ _ k.run).tells

      module _ (id : ℕ) (v : View P) (at : get_elem? s.views id ≡ some v) (first : v.first ≡ true) where
        shows : Shows handed k.machine id v
        shows = k.views id v at

        abbrev more : List Worker
        more = k.machine.workers ++ worker true false ∷ []

        -- the new worker
        fresh : Shows handed (machine k.machine.next k.machine.pieces more) (length k.machine.workers) (newcomer v.handed)
        fresh = record {
          same_handed = λ live. shows.same_handed (shows.as_first first).1;
          as_worker = at_last k.machine.workers (worker true false) (length k.machine.workers) refl;
          lists = λ i st e. sym (not_listed (length k.machine.workers) st
              (λ o. let lt = owner_there k.machine.workers i _ _ _ _ st (length k.machine.workers) (tells i st e) o in omega arith));
          no_more = λ i le. refl;
          has_out = λ i st e o. let lt = owner_there k.machine.workers i _ _ _ _ st (length k.machine.workers) (tells i st e) (in_hand_owns (length k.machine.workers) st o) in absurd (omega arith);
          in_hand = λ b. off refl b;
          as_first = λ b. off refl b;
        }

        one_live : count_by is_live more ≡ count_by is_live k.machine.workers + 1
        one_live = count-snoc is_live k.machine.workers (worker true false)

        one_longer : length more ≡ length k.machine.workers + 1
        one_longer = length-append k.machine.workers (worker true false ∷ [])

        lent : 0 < v.splits → Shows handed (machine k.machine.next k.machine.pieces more) id (one_more_away v)
        lent left = record {
          same_handed = shows.same_handed;
          as_worker = at_longer k.machine.workers (worker true false ∷ []) id _ shows.as_worker;
          lists = shows.lists;
          no_more = shows.no_more;
          has_out = shows.has_out;
          in_hand = shows.in_hand;
          as_first = λ f. let h = shows.as_first f in let a = one_live in let b = one_longer in let c = h.2 in let d = h.3 in
              (h.0, h.1, omega arith, omega arith);
        }

        -- a seat beside the first one
        beside : (j : ℕ) (u : View P) → j ≢ id → Shows handed k.machine j u
            → Shows handed (machine k.machine.next k.machine.pieces more) j u
        beside j u ne old = record {
          same_handed = old.same_handed;
          as_worker = at_longer k.machine.workers (worker true false ∷ []) j _ old.as_worker;
          lists = old.lists;
          no_more = old.no_more;
          has_out = old.has_out;
          in_hand = old.in_hand;
          as_first = λ f. absurd (ne ((old.as_first f).0 ∙ sym (shows.as_first first).0));
        }

        follows_split : 0 < v.splits → Follows handed record { words = s.words; homes = s.homes; views = set s.views id (one_more_away v) ++ newcomer_of v ∷ [] }
        follows_split left = record {
          machine = machine k.machine.next k.machine.pieces more;
          events = splitting ∷ k.events;
          run = (
            k.machine,
            k.run,
            (
              (
                v.told,
                ap (get_elem? k.machine.workers) (sym (shows.as_first first).0) ∙ shows.as_worker ∙ ap
                    (λ (b : Bool). some (worker b v.told)) (shows.as_first first).1,
              ),
              (let d = (shows.as_first first).3 in omega arith),
              refl,
            ),
          );
          few = k.few;
          words = k.words;
          slots = k.slots;
          seats = length-append (set s.views id (one_more_away v)) (newcomer_of v ∷ []) ∙ ap
              (λ (n : ℕ). n + 1) (length-set s.views id (one_more_away v) ∙ k.seats) ∙ sym one_longer;
          homes = k.homes;
          views = λ j u e. ⊎_elim
              (λ x. seat_by handed s.views k.machine (machine k.machine.next k.machine.pieces more) id (one_more_away v) k.views (lent left) (λ i w ne a old. beside i w ne old) j u x)
              (λ (x : (j ≡ length (set s.views id (one_more_away v))) × (newcomer_of v ≡ u)). subst (Shows handed (machine k.machine.next k.machine.pieces more) j) x.1
              (subst (λ (i : ℕ). Shows handed (machine k.machine.next k.machine.pieces more) i (newcomer_of v)) (sym (x.0
              ∙ length-set s.views id (one_more_away v) ∙ k.seats)) fresh))
              (snoc_back (set s.views id (one_more_away v)) (newcomer_of v) u j e);
        }

    pub splits : (id : ℕ) (v : View P) → v.first ≡ true → 0 < v.splits → Splits (Follows handed) id v (one_more_away v) (newcomer_of v)
    splits id v first left s k at = follows_split s k id v at first left

  -- what a joined worker did is in the other's list
  both_listed : (id other : ℕ) (st : Status P) → id ≢ other → ¬ (IsInHand other st)
      → listed id st ++ listed other st ≡ listed id (handed_over id other st)
  both_listed id other waiting ne free = refl
  both_listed id other (claimed u) ne free = ap
      (λ (l : List (Option P)). listed id (claimed u) ++ l) (not_listed other (claimed u) free) ∙ append-nil (listed id (claimed u))
  both_listed id other (held u) ne free = ap (λ (l : List (Option P)). listed id (held u) ++ l) (not_listed other (held u) free)
      ∙ append-nil (listed id (held u))
  both_listed id other (done u p) ne free = dite (ℕ_discrete u other)
      (λ e. let hit = eq-eqb u other e in
      ap₂ (λ (a b : List (Option P)). a ++ b) (not_listed id (done u p) (λ x. ne (sym x ∙ e))) (ap
      (λ (t : Bool). cond t (Some p ∷ []) []) hit)
      ∙ sym (ap (λ (t : Bool). cond t (Some p ∷ []) []) (eq-eqb id id refl)) ∙ sym (ap
      (λ (t : Bool). listed id (done (cond t id u) p)) hit))
      (λ n. ap (λ (l : List (Option P)). listed id (done u p) ++ l) (not_listed other (done u p) n) ∙ append-nil (listed id (done u p))
      ∙ sym (ap (λ (t : Bool). listed id (done (cond t id u) p)) (ne_eqb u other n)))

  same_listed : (j id other : ℕ) (st : Status P) → j ≢ id → j ≢ other → listed j st ≡ listed j (handed_over id other st)
  same_listed j id other waiting n m = refl
  same_listed j id other (claimed u) n m = refl
  same_listed j id other (held u) n m = refl
  same_listed j id other (done u p) n m = dite (ℕ_discrete u other)
      (λ e. not_listed j (done u p) (λ x. m (sym x ∙ e)) ∙ sym (not_listed j (done id p) (λ x. n (sym x))) ∙ sym (ap
      (λ (t : Bool). listed j (done (cond t id u) p)) (eq-eqb u other e)))
      (λ ne. sym (ap (λ (t : Bool). listed j (done (cond t id u) p)) (ne_eqb u other ne)))

  spent_listed : (id other : ℕ) (st : Status P) → id ≢ other → ¬ (IsInHand other st) → [] ≡ listed other (handed_over id other st)
  spent_listed id other waiting ne free = refl
  spent_listed id other (claimed u) ne free = sym (not_listed other (claimed u) free)
  spent_listed id other (held u) ne free = sym (not_listed other (held u) free)
  spent_listed id other (done u p) ne free = dite (ℕ_discrete u other)
      (λ e. sym (not_listed other (done id p) ne) ∙ sym (ap (λ (t : Bool). listed other (done (cond t id u) p)) (eq-eqb u other e)))
      (λ n. sym (not_listed other (done u p) n) ∙ sym (ap (λ (t : Bool). listed other (done (cond t id u) p)) (ne_eqb u other n)))

  hand_stays : (j id other : ℕ) (st : Status P) → IsInHand j (handed_over id other st) → IsInHand j st
  hand_stays j id other waiting h = h
  hand_stays j id other (claimed u) h = h
  hand_stays j id other (held u) h = h
  hand_stays j id other (done u p) h = h

  home_stays : (home : maybe.Option (maybe.Option (Option P))) (handed : maybe.Option P) (id other : ℕ) (st : Status P)
      → IsHome home handed st → IsHome home handed (handed_over id other st)
  home_stays home handed id other waiting h = h
  home_stays home handed id other (claimed u) h = h
  home_stays home handed id other (held u) h = h
  home_stays home handed id other (done u p) h = h

  module _ (handed : List P) (s : State (Option P) (View P)) (k : Follows handed s) (id other : ℕ) (v w : View P) (at : get_elem? s.views id ≡ some v) (away : get_elem? s.views other ≡ some w)
      (ne : id ≢ other) (first : v.first ≡ true) (live : w.live ≡ true) (told : w.told ≡ true) where
    into : Shows handed k.machine id v
    into = k.views id v at

    from : Shows handed k.machine other w
    from = k.views other w away

    from_is : get_elem? k.machine.workers other ≡ some (worker true true)
    from_is = from.as_worker ∙ ap₂ (λ (a b : Bool). some (worker a b)) live told

    into_is : get_elem? k.machine.workers id ≡ some (worker true v.told)
    into_is = into.as_worker ∙ ap (λ (b : Bool). some (worker b v.told)) (into.as_first first).1

    free : (i : ℕ) (st : Status P) → get_elem? k.machine.pieces i ≡ some st → ¬ (IsInHand other st)
    free i st e = told_has_none k.machine.workers i _ _ _ _ st other ((sound _ _ _ k.run).tells i st e) from_is

    abbrev pieces' : List (Status P)
    pieces' = map (handed_over id other) k.machine.pieces

    abbrev workers' : List Worker
    workers' = set k.machine.workers other (worker false true)

    abbrev after : Machine P
    after = machine k.machine.next pieces' workers'

    size : length pieces' ≡ length k.machine.pieces
    size = length-map k.machine.pieces (handed_over id other)

    wide : length workers' ≡ length k.machine.workers
    wide = length-set k.machine.workers other (worker false true)

    -- its hand stays where it was
    same_hand : (j : ℕ) (u : View P) → Shows handed k.machine j u → u.busy ≡ true → get_elem? pieces' u.hand ≡ some (claimed j)
    same_hand j u old busy = at_map (handed_over id other) k.machine.pieces u.hand (claimed j) (old.in_hand busy)

    same_out : (j : ℕ) (u : View P) → Shows handed k.machine j u → (i : ℕ) (st : Status P) → get_elem? pieces' i ≡ some st
        → IsInHand j st → (u.busy ≡ true) × (i ≡ u.hand)
    same_out j u old i st e mine = let b = map_back (handed_over id other) k.machine.pieces i st e in old.has_out i b.0 b.1 (hand_stays j id other b.0 (subst (IsInHand j) (sym b.2) mine))

    live_left : (n : ℕ) → count_by is_live k.machine.workers ≡ suc n → count_by is_live workers' ≡ suc (n - 1)
    live_left n e = let a = count-set is_live k.machine.workers other (worker true true) (worker false true) from_is in
        let b = count-set is_live workers' id (worker true v.told) (worker false true) (set_else k.machine.workers other id (worker false true) ne ∙ into_is) in omega arith

    gone : Shows handed after other spent
    gone = record {
      same_handed = λ b. off refl b;
      as_worker = set_here k.machine.workers other (worker false true) (inside k.machine.workers other _ from_is);
      lists = λ i st e. let b = map_back (handed_over id other) k.machine.pieces i st e in spent_listed id other b.0 ne (free i b.0 b.1) ∙ ap (listed other) b.2;
      no_more = λ i le. refl;
      has_out = λ i st e mine. let b = map_back (handed_over id other) k.machine.pieces i st e in absurd (free i b.0 b.1 (hand_stays other id other b.0 (subst (IsInHand other) (sym b.2) mine)));
      in_hand = λ b. off refl b;
      as_first = λ b. off refl b;
    }

    gains : Shows handed after id (joined v w)
    gains = record {
      same_handed = into.same_handed;
      as_worker = set_else k.machine.workers other id (worker false true) ne ∙ into.as_worker;
      lists = λ i st e. let b = map_back (handed_over id other) k.machine.pieces i st e in
          under-append i v.entries w.entries ∙ ap₂ (λ (x y : List (Option P)). x ++ y) (into.lists i b.0 b.1) (from.lists i b.0 b.1)
          ∙ both_listed id other b.0 ne (free i b.0 b.1) ∙ ap (listed id) b.2;
      no_more = λ i le. let l = size in under-append i v.entries w.entries ∙ ap₂
          (λ (x y : List (Option P)). x ++ y) (into.no_more i (omega arith)) (from.no_more i (omega arith));
      has_out = same_out id v into;
      in_hand = same_hand id v into;
      as_first = λ f. let h = into.as_first f in let a = live_left v.away h.2 in let b = wide in let c = h.3 in (h.0, h.1, a, omega arith);
    }

    aside : (j : ℕ) (u : View P) → j ≢ id → j ≢ other → Shows handed k.machine j u → Shows handed after j u
    aside j u n m old = record {
      same_handed = old.same_handed;
      as_worker = set_else k.machine.workers other j (worker false true) m ∙ old.as_worker;
      lists = λ i st e. let b = map_back (handed_over id other) k.machine.pieces i st e in old.lists i b.0 b.1
          ∙ same_listed j id other b.0 n m ∙ ap (listed j) b.2;
      no_more = λ i le. let l = size in old.no_more i (omega arith);
      has_out = same_out j u old;
      in_hand = same_hand j u old;
      as_first = λ f. absurd (n ((old.as_first f).0 ∙ sym (into.as_first first).0));
    }

    follows_join : Follows handed record { words = s.words; homes = s.homes; views = set (set s.views id (joined v w)) other spent }
    follows_join = record {
      machine = after;
      events = joining id other ∷ k.events;
      run = (k.machine, k.run, (ne, (v.told, into_is), from_is, refl));
      few = k.few;
      words = k.words ∙ ap (λ (n : ℕ). k.machine.next ∷ n ∷ []) (sym (count-map is_done (handed_over id other) (is_done-handed id other) k.machine.pieces));
      slots = k.slots;
      seats = length-set (set s.views id (joined v w)) other spent ∙ length-set s.views id (joined v w) ∙ k.seats ∙ sym wide;
      homes = λ i st e. let b = map_back (handed_over id other) k.machine.pieces i st e in subst (IsHome (get_elem? s.homes i) (get_elem? handed i)) b.2 (home_stays (get_elem? s.homes i) (get_elem? handed i) id other b.0 (k.homes i b.0 b.1));
      views = λ j u e. ⊎_elim
          (λ (x : (j ≡ other) × (spent ≡ u)). subst (Shows handed after j) x.1 (subst
          (λ (i : ℕ). Shows handed after i spent) (sym x.0) gone))
          (λ (x : (j ≢ other) × (get_elem? (set s.views id (joined v w)) j ≡ some u)). ⊎_elim
          (λ (y : (j ≡ id) × (joined v w ≡ u)). subst (Shows handed after j) y.1 (subst
          (λ (i : ℕ). Shows handed after i (joined v w)) (sym y.0) gains))
          (λ (y : (j ≢ id) × (get_elem? s.views j ≡ some u)). aside j u y.0 x.0 (k.views j u y.1)) (at_set s.views id j (joined v w) u x.1))
          (at_set (set s.views id (joined v w)) other j spent u e);
    }

  pub joins : (handed : List P) (id other : ℕ) (v w : View P) → v.first ≡ true → w.live ≡ true → w.told ≡ true
      → Joins (Follows handed) id v other w (joined v w) spent
  joins handed id other v w first live told s k at apart there =
      follows_join handed s k id other v w at (sym (set_else s.views id other (joined v w) apart) ∙ there)
      (λ e. apart (sym e)) first live told

  one_or_none : (t : Bool) (x : Option P) → length (cond t (x ∷ []) []) ≤ 1
  one_or_none true x = omega arith
  one_or_none false x = omega arith

  at_most_one : (id : ℕ) (st : Status P) → length (listed id st) ≤ 1
  at_most_one id waiting = omega arith
  at_most_one id (claimed w) = one_or_none (eqb w id) None
  at_most_one id (held w) = one_or_none (eqb w id) None
  at_most_one id (done w p) = one_or_none (eqb w id) (Some p)

  pub looks : (handed : List P) (slots id : ℕ) (me : Me (Option P) (View P)) → Allows (Follows handed) slots id me 0
      (λ n. n) (Looks (step slots 0 0 0 none) me)
  looks handed slots id me s k long at bound = (
    me.0,
    keeps,
    tt,
    record {
      machine = k.machine;
      events = k.events;
      run = k.run;
      few = k.few;
      words = ap (λ (ws : List ℕ). set ws 0 (get_or ws 0 0)) k.words;
      slots = k.slots;
      seats = length-set s.views id me.0 ∙ k.seats;
      homes = k.homes;
      views = λ j v e. k.views j v (ap (λ (vs : List (View P)). get_elem? vs j) (sym (set_again s.views id me.0 at)) ∙ e);
    },
    (
      refl,
      λ j. let shows = k.views id me.0 at in dite (dec_lt j (length k.machine.pieces))
          (λ lt. let st = there k.machine.pieces j lt in subst
          (λ (l : List (Option P)). length l ≤ 1) (sym (shows.lists j st.0 st.1)) (at_most_one id st.0))
          (λ ge. subst (λ (l : List (Option P)). length l ≤ 1) (sym (shows.no_more j (omega (arith, ge)))) (omega arith)),
    ),
  )
