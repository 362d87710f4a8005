-- A put keeps the rule: the slot goes home with the piece, which is done.
use Rattle.std.proofs.Common.{◌≡◌, ◌≢◌, ℕ, suc, ◌+◌, ◌%◌, ◌^◌, Bool, true, cond, eq-eqb, ne_eqb, Option, Some, None, List, [], ◌∷◌, map, length, get_or, set, count_by, sym, refl, ap, ◌∙◌, subst, ⊎_elim, mod-eq_of_lt, length-set, arith}
use Rattle.std.proofs.lemmas.List.Sums.{count_by-le-length}
use mathlib.Core.Option.{some, none}
use lib.ListN.{get_elem?}
use Rattle.atomic_table.specs.Table.{State, Me, Act, step, gives, put_back, stepped, carried_after, Valid, Allows}
use Rattle.atomic_table.proofs.Lists.{at_set, set_here, set_else}
use Rattle.mq_claims.specs.declared.view.View.{View}
use Rattle.mq_claims.specs.Machine.{Status, claimed, held, done, machine, taking, putting, IsInHand}
use Rattle.mq_claims.specs.MachineLaws.{is_done}
use Rattle.mq_claims.specs.Views.{under, with_piece, with_put}
use Rattle.mq_claims.specs.Rule.{listed, Shows, Follows, put_view, Puts}
use Rattle.mq_claims.proofs.ListLemmas.{inside, count-set}
use Rattle.mq_claims.proofs.RunLemmas.{sound}
use Rattle.mq_claims.proofs.RuleLemmas.{off, set_twice, put_here, put_else, home_by, seat_by, shows_else}

module _ {P : Type 0} (handed : List P) where
  abbrev S : Type 0
  S = State (Option P) (View P)

  abbrev M : Type 0
  M = Me (Option P) (View P)

  module _ (s : S) (k : Follows handed s) (id i : ℕ) (v : View P) (p : P) (at : get_elem? s.views id ≡ some v) (busy : v.busy ≡ true) (hand : v.hand ≡ i) where
    abbrev d : ℕ
    d = count_by is_done k.machine.pieces

    shows : Shows handed k.machine id v
    shows = k.views id v at

    mine : get_elem? k.machine.pieces i ≡ some (claimed id)
    mine = ap (get_elem? k.machine.pieces) (sym hand) ∙ shows.in_hand busy

    size : length k.machine.pieces ≡ length handed
    size = (sound _ _ _ k.run).size

    abbrev pieces' : List (Status P)
    pieces' = set k.machine.pieces i (done id p)

    more : count_by is_done pieces' ≡ suc d
    more = let a = count-set is_done k.machine.pieces i (claimed id) (done id p) mine in omega arith

    small : (d + 1) % 2 ^ 64 ≡ suc d
    small = let a = count_by-le-length is_done k.machine.pieces in let b = size in
        let e = k.few in mod-eq_of_lt (omega arith) ∙ (omega arith)

    word : set s.words 1 ((d + 1) % 2 ^ 64) ≡ k.machine.next ∷ count_by is_done pieces' ∷ []
    word = ap (λ (ws : List ℕ). set ws 1 ((d + 1) % 2 ^ 64)) k.words ∙ ap (λ (n : ℕ). k.machine.next ∷ n ∷ []) (small ∙ sym more)

    other_hand : (id' : ℕ) → id' ≢ id → listed id' (done id p) ≡ listed id' (claimed id)
    other_hand id' ne = let no = ne_eqb id id' (λ e. ne (sym e)) in ap (λ (t : Bool). cond t (Some p ∷ []) []) no ∙ sym (ap
        (λ (t : Bool). cond t (None ∷ []) []) no)

    mine_put : Shows handed (machine k.machine.next pieces' k.machine.workers) id (with_put v i p)
    mine_put = record {
      same_handed = shows.same_handed;
      as_worker = shows.as_worker;
      lists = λ j st e. ⊎_elim
          (λ (x : (j ≡ i) × (done id p ≡ st)). ap (λ (n : ℕ). under n (map (with_piece i p) v.entries)) x.0 ∙ put_here i p v.entries
          ∙ ap (map (λ (x : Option P). Some p)) (shows.lists i (claimed id) mine)
          ∙ ap (λ (t : Bool). map (λ (x : Option P). Some p) (cond t (None ∷ []) [])) (eq-eqb id id refl) ∙ sym (ap
          (λ (t : Bool). cond t (Some p ∷ []) []) (eq-eqb id id refl)) ∙ ap (listed id) x.1)
          (λ (x : (j ≢ i) × (get_elem? k.machine.pieces j ≡ some st)). put_else j i p v.entries x.0
          ∙ shows.lists j st x.1) (at_set k.machine.pieces i j (done id p) st e);
      no_more = λ j le. let l = length-set k.machine.pieces i (done id p) in
          let lt = inside k.machine.pieces i _ mine in put_else j i p v.entries (λ e. omega arith) ∙ shows.no_more j (omega arith);
      has_out = λ j st e own. ⊎_elim (λ (x : (j ≡ i) × (done id p ≡ st)). absurd (subst (IsInHand id) (sym x.1) own))
          (λ (x : (j ≢ i) × (get_elem? k.machine.pieces j ≡ some st)). absurd (x.0 ((shows.has_out j st x.1 own).1
          ∙ hand))) (at_set k.machine.pieces i j (done id p) st e);
      in_hand = λ b. off refl b;
      as_first = shows.as_first;
    }

    follows : Follows handed record { words = set s.words 1 ((d + 1) % 2 ^ 64); homes = set s.homes i (some (Some p)); views = set s.views id (with_put v i p) }
    follows = record {
      machine = machine k.machine.next pieces' k.machine.workers;
      events = putting id p ∷ taking id ∷ k.events;
      run = (
        machine k.machine.next (set k.machine.pieces i (held id)) k.machine.workers,
        (k.machine, k.run, (i, mine, refl)),
        (
          i,
          set_here k.machine.pieces i (held id) (inside k.machine.pieces i _ mine),
          ap
              (λ (ps : List (Status P)). machine k.machine.next ps k.machine.workers) (sym (set_twice k.machine.pieces i (held id) (done id p))),
        ),
      );
      few = k.few;
      words = word;
      slots = length-set s.homes i (some (Some p)) ∙ k.slots;
      seats = length-set s.views id (with_put v i p) ∙ k.seats;
      homes = home_by handed k.machine.pieces s.homes (set s.homes i (some (Some p))) i (done id p) k.homes
          (λ j ne. set_else s.homes i j (some (Some p)) ne)
          (set_here s.homes i (some (Some p)) (let lt = inside k.machine.pieces i _ mine in let a = k.slots in
          let b = size in omega arith));
      views = seat_by handed s.views k.machine (machine k.machine.next pieces' k.machine.workers) id (with_put v i p) k.views mine_put
          (λ j u ne e old. shows_else handed k.machine i k.machine.next (claimed id) (done id p) j u mine (other_hand j ne) (λ x. x)
          (λ x. ne (sym x)) old);
    }

  abbrev Goes : S → ℕ → ℕ → M → ℕ → Type 0
  Goes s slots id me n = (w : View P) × (a : Act (Option P)) × Valid s.homes me.1 a × Follows handed (stepped s 1 ((n + 1) % 2 ^ 64) id me.1 w a) × Puts (step slots 1 1 0 none) me n (w, carried_after me.1 a)

  pub puts : (slots id i : ℕ) (me : M) (p : P) → me.0.busy ≡ true → me.0.hand ≡ i → me.1 ≡ (i, Some p) ∷ []
      → Allows (Follows handed) slots id me 1 (λ n. (n + 1) % 2 ^ 64) (Puts (step slots 1 1 0 none) me)
  puts slots id i me p busy hand carried s k long at bound = subst (Goes s slots id me) (sym (ap
      (λ (ws : List ℕ). get_or ws 1 0) k.words)) (
        put_view me.0 me.1,
        gives,
        tt,
        subst (λ (c : List (ℕ × Option P)). Follows handed record { words = set s.words 1 ((count_by is_done k.machine.pieces + 1) % 2 ^ 64); homes = put_back s.homes c; views = set s.views id (put_view me.0 c) }) (sym carried)
            (follows s k id i me.0 p at busy hand),
        refl,
      )
