-- The rule at the start, and what it says at the end.
use Rattle.std.proofs.Common.{◌≡◌, ℕ, zero, suc, ◌-◌, ◌<◌, ◌≤◌, Bool, true, false, cond, eqb, Option, Some, List, [], ◌∷◌, map, length, replicate, set, count_by, sym, refl, ap, ap₂, ◌∙◌, subst, arith}
use Rattle.std.proofs.lemmas.List.{length-map, length-replicate}
use mathlib.Core.Logic.{dite}
use mathlib.Core.Option.{some, some-injective, some-ne-none}
use native.Mathlib.Decide.{ℕ_discrete}
use lib.ListN.{get_elem?}
use Rattle.atomic_table.specs.Table.{opening, Final, Seen}
use Rattle.atomic_table.proofs.Lists.{set_else, at_map}
use Rattle.mq_claims.specs.declared.limits.TheConstants.{MAX_PIECES, MAX_SEATS}
use Rattle.mq_claims.specs.declared.view.View.{View}
use Rattle.mq_claims.specs.Machine.{Status, waiting, done, Worker, worker, Machine, start, IsInHand}
use Rattle.mq_claims.specs.MachineLaws.{IsOver, is_done}
use Rattle.mq_claims.specs.Views.{beginner}
use Rattle.mq_claims.specs.Rule.{is_live, listed, IsHome, Shows, Follows}
use Rattle.mq_claims.specs.Calls.{IsWhole}
use Rattle.mq_claims.proofs.ListLemmas.{one, there, inside, same, in_replicate, count-set, count-none}
use Rattle.mq_claims.proofs.RunLemmas.{sound}
use Rattle.mq_claims.proofs.LawLemmas.{all_is_done}
use Rattle.mq_claims.proofs.RuleLemmas.{off}

module _ {P : Type 0} (handed : List P) where
  abbrev from_start : Machine P
  from_start = start (length handed)

  first_shows : (seats : ℕ) → 0 < seats → seats ≤ MAX_SEATS → Shows handed from_start 0 (beginner handed (seats - 1))
  first_shows seats some_seat few = record {
    same_handed = λ live. refl;
    as_worker = refl;
    lists = λ k st e. ap (listed 0) (in_replicate (length handed) k waiting st e);
    no_more = λ k le. refl;
    has_out = λ k st e mine. absurd (subst (IsInHand 0) (sym (in_replicate (length handed) k waiting st e)) mine);
    in_hand = λ busy. off refl busy;
    as_first = λ first. (refl, refl, refl, omega arith);
  }

  homes_at_first : (k : ℕ) (st : Status P) → get_elem? (replicate (length handed) waiting) k ≡ some st
      → IsHome (get_elem? (map some (map Some handed)) k) (get_elem? handed k) st
  homes_at_first k st e = let lt = inside (replicate (length handed) waiting) k st e in let w : Status P = waiting in
      let l = length-replicate (length handed) w in let at = there handed k (omega arith) in
      subst (IsHome (get_elem? (map some (map Some handed)) k) (get_elem? handed k)) (in_replicate (length handed) k waiting st e)
      (at.0, at.1, at_map some (map Some handed) k (Some at.0) (at_map (λ (p : P). Some p) handed k at.0 at.1))

  pub begins : (seats : ℕ) → length handed ≤ MAX_PIECES → 0 < seats → seats ≤ MAX_SEATS
      → Follows handed (opening (0 ∷ 0 ∷ []) (map Some handed) (beginner handed (seats - 1)))
  begins seats small some_seat few = record {
    machine = from_start;
    events = [];
    run = refl;
    few = small;
    words = ap (λ (n : ℕ). 0 ∷ n ∷ []) (sym (count-none (is_done {P = P}) (length handed) waiting refl));
    slots = length-map (map (λ (p : P). Some p) handed) some ∙ length-map handed (λ (p : P). Some p);
    seats = refl;
    homes = homes_at_first;
    views = views;
  }
    where
      views : (id : ℕ) (v : View P) → get_elem? (beginner handed (seats - 1) ∷ []) id ≡ some v → Shows handed from_start id v
      views zero v e = subst (Shows handed from_start 0) (some-injective _ _ e) (first_shows seats some_seat few)
      views (suc id) v e = absurd (some-ne-none v (sym e))

  -- where one worker lives, it is this one
  alone : (ws : List Worker) (i j : ℕ) (x y : Worker) → count_by is_live ws ≡ 1 → get_elem? ws i ≡ some x → x.live ≡ true
      → get_elem? ws j ≡ some y → y.live ≡ true → j ≡ i
  alone ws i j x y single at live at' live' = dite (ℕ_discrete j i) (λ e. e) (λ ne.
      let a = count-set is_live ws i x (worker false true) at in
      let b = count-set is_live (set ws i (worker false true)) j y (worker false true) (set_else ws i j (worker false true) ne
      ∙ at') in
      let c : one is_live x ≡ 1 = ap (λ (t : Bool). cond t 1 0) live in
      let d : one is_live y ≡ 1 = ap (λ (t : Bool). cond t 1 0) live' in absurd (omega arith))

  module _ (id : ℕ) (v : View P) (ws : List ℕ) (xs : List (Option P)) (last : Final (Seen (Follows handed) id v) ws xs) (first : v.first ≡ true) (told : v.told ≡ true) (away : v.away ≡ 0) where
    abbrev pub k : Follows handed last.0
    k = last.1.0

    shows : Shows handed k.machine id v
    shows = k.views id v last.1.1

    is_worker : get_elem? k.machine.workers 0 ≡ some (worker true true)
    is_worker = let h = shows.as_first first in ap (get_elem? k.machine.workers) (sym h.0) ∙ shows.as_worker ∙ ap₂
        (λ (a b : Bool). some (worker a b)) h.1 told

    over : IsOver k.machine
    over = (
      is_worker,
      λ w x at live. alone k.machine.workers 0 w (worker true true) x ((shows.as_first first).2
          ∙ ap suc away) is_worker refl at live,
    )

    size : length k.machine.pieces ≡ length handed
    size = (sound _ _ _ k.run).size

    count : length xs ≡ length handed
    count = sym last.3 ∙ k.slots

    pub each_in : (i : ℕ) → i < length xs → (p : P) × (get_elem? xs i ≡ some (Some p)) × (get_elem? k.machine.pieces i ≡ some (done 0 p))
    each_in i lt = let d = (all_is_done P (length handed) k.events k.machine k.run over).1 i (let c = count in omega arith) in
        (d.0, last.4 i (Some d.0) (k.homes i (done 0 d.0) d.1), d.1)

    pub whole : (ps : List P) → map Some ps ≡ xs → IsWhole ps v
    whole ps e = (
      long ∙ ap length (sym (shows.same_handed (shows.as_first first).1)),
      (λ i le. let a = long in shows.no_more i (omega (arith, size))),
      λ i p at. let put : get_elem? xs i ≡ some (Some p) = ap (λ (l : List (Option P)). get_elem? l i) (sym e) ∙ at_map
          (λ (p : P). Some p) ps i p at in let lt = inside xs i (Some p) put in
          let d = each_in i lt in let is : Some d.0 ≡ Some p = same xs i (Some d.0) (Some p) d.1 put in
          shows.lists i (done 0 d.0) d.2 ∙ ap (λ (j : ℕ). cond (eqb 0 j) (Some d.0 ∷ []) []) (shows.as_first first).0 ∙ ap
          (λ (x : Option P). x ∷ []) is,
    )
      where
        long : length ps ≡ length handed
        long = sym (length-map ps (λ (p : P). Some p)) ∙ ap length e ∙ count
