-- A claim keeps the rule: the next piece is the seat's, or the seat is told none.
use Rattle.std.proofs.Common.{◌≡◌, ◌≢◌, ℕ, suc, ◌+◌, ◌%◌, ◌^◌, ◌<◌, ◌≤◌, Bool, true, false, cond, eq-eqb, ne_eqb, Option, Some, None, List, [], ◌∷◌, length, get_or, set, count_by, sym, refl, ap, ap₂, ◌∙◌, subst, ⊎_elim, mod-eq_of_lt, length-set, arith}
use Rattle.std.proofs.lemmas.List.Sums.{count_by-le-length}
use mathlib.Core.Logic.{dite}
use mathlib.Core.Option.{some, none}
use native.Mathlib.Decide.{dec_lt}
use lib.ListN.{get_elem?}
use Rattle.atomic_table.specs.Table.{State, Me, Act, step, keeps, takes, stepped, carried_after, Valid, Allows}
use Rattle.atomic_table.proofs.Lists.{at_set, set_here, set_else}
use Rattle.mq_claims.specs.declared.view.View.{View}
use Rattle.mq_claims.specs.Machine.{Status, waiting, claimed, Worker, worker, Machine, machine, Event, claiming, start, IsInHand, Run}
use Rattle.mq_claims.specs.MachineLaws.{is_done, is_told}
use Rattle.mq_claims.specs.Views.{entry, under, AllBelow, with_claim, told_none}
use Rattle.mq_claims.specs.Rule.{is_live, listed, Shows, Follows, Claims}
use Rattle.mq_claims.proofs.ListLemmas.{inside, count-set}
use Rattle.mq_claims.proofs.RunLemmas.{sound, next_waits}
use Rattle.mq_claims.proofs.LawLemmas.{each_is_claimed_once}
use Rattle.mq_claims.proofs.RuleLemmas.{off, under_here, under_else, home_by, seat_by, shows_else}

module _ {P : Type 0} (handed : List P) where
  abbrev S : Type 0
  S = State (Option P) (View P)

  abbrev M : Type 0
  M = Me (Option P) (View P)

  -- what a claim owes where it found the number n
  abbrev Goes : S → ℕ → ℕ → M → ℕ → Type 0
  Goes s slots id me n = (w : View P) × (a : Act (Option P)) × Valid s.homes me.1 a × Follows handed (stepped s 0 ((n + 1) % 2 ^ 64) id me.1 w a) × Claims (step slots 0 1 0 none) me n (w, carried_after me.1 a)

  -- the numbers from `next` on are in no list
  none_beyond : (n : ℕ) (es : List (Event P)) (m : Machine P) (id : ℕ) (v : View P) → Run (start n) es m → Shows handed m id v
      → AllBelow m.next v.entries
  none_beyond n es m id v run shows k le = dite (dec_lt k (length m.pieces))
      (λ lt. let size : length m.pieces ≡ n = (sound n es m run).size in
      let at : get_elem? m.pieces k ≡ some waiting = ((each_is_claimed_once P n es m run k (omega arith)).1 le).1 in shows.lists k waiting at)
      (λ ge. shows.no_more k (omega (arith, ge)))

  module _ (s : S) (k : Follows handed s) (slots id : ℕ) (me : M) (at : get_elem? s.views id ≡ some me.0)
      (live : me.0.live ≡ true) (told : me.0.told ≡ false) (busy : me.0.busy ≡ false) where
    abbrev c : ℕ
    c = k.machine.next

    shows : Shows handed k.machine id me.0
    shows = k.views id me.0 at

    is_worker : get_elem? k.machine.workers id ≡ some (worker true false)
    is_worker = shows.as_worker ∙ ap₂ (λ (a b : Bool). some (worker a b)) live told

    free : (i : ℕ) (st : Status P) → get_elem? k.machine.pieces i ≡ some st → ¬ (IsInHand id st)
    free i st e mine = off busy (shows.has_out i st e mine).0

    size : length k.machine.pieces ≡ length handed
    size = (sound _ _ _ k.run).size

    small : (c + 1) % 2 ^ 64 ≡ suc c
    small = let a = (sound _ _ _ k.run).bounded in let b = (sound _ _ _ k.run).few in
        let d = count_by-le-length is_told k.machine.workers in let e = k.few in mod-eq_of_lt (omega arith) ∙ (omega arith)

    word : (n : ℕ) → n ≡ count_by is_done k.machine.pieces → set s.words 0 ((c + 1) % 2 ^ 64) ≡ suc c ∷ n ∷ []
    word n e = ap (λ (ws : List ℕ). set ws 0 ((c + 1) % 2 ^ 64)) k.words ∙ ap₂ (λ (a b : ℕ). a ∷ b ∷ []) small (sym e)

    module _ (lt : c < length handed) where
      waits : get_elem? k.machine.pieces c ≡ some waiting
      waits = next_waits _ _ _ (sound _ _ _ k.run) (omega (arith, size))

      abbrev pieces' : List (Status P)
      pieces' = set k.machine.pieces c (claimed id)

      mine_below : Shows handed (machine (suc c) pieces' k.machine.workers) id (with_claim me.0 c)
      mine_below = record {
        same_handed = shows.same_handed;
        as_worker = shows.as_worker;
        lists = λ i st e. ⊎_elim
            (λ (x : (i ≡ c) × (claimed id ≡ st)). ap (λ (j : ℕ). under j (entry c None ∷ me.0.entries)) x.0
            ∙ under_here c None me.0.entries ∙ ap (λ (l : List (Option P)). None ∷ l) (shows.lists c waiting waits)
            ∙ sym (ap (λ (t : Bool). cond t (None ∷ []) []) (eq-eqb id id refl)) ∙ ap (listed id) x.1)
            (λ (x : (i ≢ c) × (get_elem? k.machine.pieces i ≡ some st)). under_else i c None me.0.entries x.0
            ∙ shows.lists i st x.1) (at_set k.machine.pieces c i (claimed id) st e);
        no_more = λ i le. let l = length-set k.machine.pieces c (claimed id) in under_else i c None me.0.entries
            (λ e. omega (arith, size)) ∙ shows.no_more i (omega arith);
        has_out = λ i st e mine. ⊎_elim (λ (x : (i ≡ c) × (claimed id ≡ st)). (refl, x.0))
            (λ (x : (i ≢ c) × (get_elem? k.machine.pieces i ≡ some st)). absurd (free i st x.1 mine)) (at_set k.machine.pieces c i (claimed id) st e);
        in_hand = λ b. set_here k.machine.pieces c (claimed id) (inside k.machine.pieces c waiting waits);
        as_first = shows.as_first;
      }

      below : Goes s slots id me c
      below = let h = k.homes c waiting waits in let x : P = h.0 in let same = shows.same_handed live in (
        with_claim me.0 c,
        takes c (Some x),
        h.2,
        record {
          machine = machine (suc c) pieces' k.machine.workers;
          events = claiming id ∷ k.events;
          run = (k.machine, k.run, (is_worker, free, (λ l. refl), λ ge. absurd (omega (arith, size))));
          few = k.few;
          words = word _ (let a = count-set is_done k.machine.pieces c waiting (claimed id) waits in omega arith);
          slots = length-set s.homes c none ∙ k.slots;
          seats = length-set s.views id (with_claim me.0 c) ∙ k.seats;
          homes = home_by handed k.machine.pieces s.homes (set s.homes c none) c (claimed id) k.homes
              (λ i ne. set_else s.homes c i none ne) (set_here s.homes c none (inside s.homes c _ h.2));
          views = seat_by handed s.views k.machine (machine (suc c) pieces' k.machine.workers) id (with_claim me.0 c) k.views mine_below
              (λ j v ne e old. shows_else handed k.machine c (suc c) waiting (claimed id) j v waits (ap
              (λ (t : Bool). cond t (None ∷ []) []) (ne_eqb id j (λ i. ne (sym i)))) (λ i. ne (sym i)) (λ i. i) old);
        },
        (
          (λ l. (
            refl,
            none_beyond _ _ _ id me.0 k.run shows,
            (
              x,
              ap (λ (l : List P). get_elem? l c) same
                  ∙ h.1,
              refl,
            ),
          )),
          λ ge. let l : length me.0.handed ≡ length handed = ap length same in absurd (omega arith),
        ),
      )

    module _ (ge : length handed ≤ c) where
      abbrev workers' : List Worker
      workers' = set k.machine.workers id (worker true true)

      lives : count_by is_live workers' ≡ count_by is_live k.machine.workers
      lives = let a = count-set is_live k.machine.workers id (worker true false) (worker true true) is_worker in omega arith

      wide : length workers' ≡ length k.machine.workers
      wide = length-set k.machine.workers id (worker true true)

      beyond : Goes s slots id me c
      beyond = let same = shows.same_handed live in (
        told_none me.0 c,
        keeps,
        tt,
        record {
          machine = machine (suc c) k.machine.pieces workers';
          events = claiming id ∷ k.events;
          run = (k.machine, k.run, (is_worker, free, (λ l. absurd (omega (arith, size))), λ g. refl));
          few = k.few;
          words = word _ refl;
          slots = k.slots;
          seats = length-set s.views id (told_none me.0 c) ∙ k.seats ∙ sym wide;
          homes = k.homes;
          views = seat_by handed s.views k.machine (machine (suc c) k.machine.pieces workers') id (told_none me.0 c) k.views
              record {
                same_handed = shows.same_handed;
                as_worker = set_here k.machine.workers id (worker true true) (inside k.machine.workers id _ is_worker) ∙ ap
                    (λ (b : Bool). some (worker b true)) (sym live);
                lists = shows.lists;
                no_more = shows.no_more;
                has_out = shows.has_out;
                in_hand = shows.in_hand;
                as_first = λ f. let h = shows.as_first f in (h.0, h.1, lives ∙ h.2, (let b = h.3 in let w = wide in omega arith));
              }
              (λ j v ne e old. record {
                same_handed = old.same_handed;
                as_worker = set_else k.machine.workers id j (worker true true) ne ∙ old.as_worker;
                lists = old.lists;
                no_more = old.no_more;
                has_out = old.has_out;
                in_hand = old.in_hand;
                as_first = λ f. let h = old.as_first f in (h.0, h.1, lives ∙ h.2, (let b = h.3 in let w = wide in omega arith));
              });
        },
        ((λ lt. let l : length me.0.handed ≡ length handed = ap length same in absurd (omega arith)), λ g. refl),
      )

    goes : Goes s slots id me c
    goes = dite (dec_lt c (length handed)) below (λ no. beyond (omega (arith, no)))

  pub claims : (slots id : ℕ) (me : M) → me.0.live ≡ true → me.0.told ≡ false → me.0.busy ≡ false
      → Allows (Follows handed) slots id me 0 (λ n. (n + 1) % 2 ^ 64) (Claims (step slots 0 1 0 none) me)
  claims slots id me live told busy s k long at bound = subst (Goes s slots id me) (sym (ap
      (λ (ws : List ℕ). get_or ws 0 0) k.words)) (goes s k slots id me at live told busy)
