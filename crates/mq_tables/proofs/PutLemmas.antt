-- Rows that are put in the place of others.
use Rattle.std.proofs.Common.{◌≡◌, ℕ, zero, suc, ◌+◌, ◌-◌, ◌<◌, ◌≤◌, subst, get_or, List, [], ◌∷◌, ◌++◌, Bool, true, false, length, map, Option, Some, None, Result, Ok, Err, refl, sym, ap, ◌∙◌, arith, length-append}
use Rattle.std.specs.Prelude.{if◌then◌else◌, slice_set}
use Rattle.std.specs.List.{enumerate_from, filter}
use Rattle.std.proofs.lemmas.List.Elements.{filter-append}
use Rattle.std.proofs.lemmas.List.{append-nil, get_or_default, map_push}
use Rattle.mq_values.specs.declared.faults.Refused.{Refused}
use Rattle.mq_ir.specs.Changes.{Visited}
use Rattle.mq_ir.specs.Keys.{Tuple}
use Rattle.mq_ir.specs.Results.{◌>>=◌, each}
use Rattle.mq_tables.specs.InPlace.{put_at}
use Rattle.mq_tables.specs.Visits.{found, if_true, replaced, taken}
use Rattle.mq_tables.proofs.VisitLemmas.{enumerate_push, none_taken, taken_push}
use Rattle.mq_tables.proofs.Walks.{Numbered, number_start, number_next, number_end, number_fault}

put_before : (puts : List (ℕ × Tuple)) (put : ℕ × Tuple) (rows : List Tuple) → put_at (puts ++ put ∷ []) rows ≡ put_at puts (slice_set rows put.0 put.1)
put_before [] put rows = refl
put_before (p ∷ puts) put rows = ap (λ l. slice_set l p.0 p.1) (put_before puts put rows)

-- some are left to put, the last first
pub put_next : (puts rest : List (ℕ × Tuple)) (place : ℕ) (row : Tuple) (rows after all : List Tuple) → puts ≡ rest ++ (place, row) ∷ [] → after ≡ slice_set rows place row
    → put_at puts rows ≡ all → put_at rest after ≡ all
put_next puts rest place row rows after all p a h =
    ap (put_at rest) a ∙ sym (put_before rest (place, row) rows) ∙ ap (λ l. put_at l rows) (sym p) ∙ h

-- ---- rows that UPDATE visits as true
abbrev chosen_at : ℕ × Visited → Bool
chosen_at row = row.1.1

abbrev with_place : ℕ × Visited → ℕ × Tuple
with_place row = (row.0, row.1.0)

replaced_push : (vs : List Visited) (v : Visited) (n : ℕ) → length vs ≡ n → replaced (vs ++ v ∷ []) ≡ replaced vs ++ (if v.1 then (n, v.0) ∷ [] else [])
replaced_push vs v n e =
    ap (λ l. map with_place (filter chosen_at l)) (enumerate_push 0 vs v)
    ∙ ap (map with_place) (filter-append chosen_at (enumerate_from 0 vs) ((0 + length vs, v) ∷ []))
    ∙ by v.1 (omega (arith, e))
  where
    by : (b : Bool) → 0 + length vs ≡ n → map with_place (filter chosen_at (enumerate_from 0 vs) ++ (if b then (0 + length vs, v) ∷ [] else [])) ≡ replaced vs ++ (if b then (n, v.0) ∷ [] else [])
    by true m = map_push with_place (filter chosen_at (enumerate_from 0 vs)) (0 + length vs, v) ∙ ap (λ k. replaced vs ++ (k, v.0) ∷ []) m
    by false m = ap (map with_place) (append-nil (filter chosen_at (enumerate_from 0 vs))) ∙ sym (append-nil (replaced vs))

module _ (f : ℕ × Tuple → Result Visited Refused) (xs : List Tuple) where
  -- the first i rows were visited, and those that were visited as true are told with their places
  pub record Replacing (i : ℕ) (puts were : List (ℕ × Tuple)) : Type 0 where
    pub visited : List Visited
    pub walk : Numbered f xs i visited
    pub count : length visited ≡ i
    pub puts_are : puts ≡ replaced visited
    pub were_are : were ≡ taken xs visited

  pub replacing_start : (puts were : List (ℕ × Tuple)) → puts ≡ [] → were ≡ [] → Replacing 0 puts were
  replacing_start puts were p w = record { visited = []; walk = number_start f xs [] refl; count = refl; puts_are = p; were_are = w ∙ sym (none_taken xs) }

  -- what a visit comes to, where only a row that is visited as true is told
  abbrev told : ℕ × Tuple → Result (Option Tuple) Refused
  told row = f row >>= (λ v. Ok (if_true v))

  module _ (i : ℕ) (puts were : List (ℕ × Tuple)) (x : Tuple) (h : i < length xs) (e : x ≡ get_or xs i x) (r : Replacing i puts were) where
    next : (after stood : List (ℕ × Tuple)) (y : Tuple) (b : Bool) → f (i + 1, x) ≡ Ok (y, b)
        → after ≡ puts ++ (if b then (i, y) ∷ [] else []) → stood ≡ were ++ (if b then (i, x) ∷ [] else []) → Replacing (i + 1) after stood
    next after stood y b g a s =
        let vs = r.visited in
        record {
          visited = vs ++ (y, b) ∷ [];
          walk = number_next f xs i vs (vs ++ (y, b) ∷ []) x (y, b) h e g refl r.walk;
          count = length-append vs ((y, b) ∷ []) ∙ (let c = r.count in omega (arith, c));
          puts_are = a ∙ ap (λ l. l ++ (if b then (i, y) ∷ [] else [])) r.puts_are ∙ sym (replaced_push vs (y, b) i r.count);
          were_are = s ∙ ap (λ l. l ++ (if b then (i, x) ∷ [] else [])) r.were_are ∙ sym (taken_push xs vs (y, b) i x r.count h e);
        }

    pub replacing_left : f (i + 1, x) ≡ Ok (x, false) → Replacing (i + 1) puts were
    replacing_left g = next puts were x false g (sym (append-nil puts)) (sym (append-nil were))

    pub replacing_some : (after stood : List (ℕ × Tuple)) (row : Tuple) → told (i + 1, x) ≡ Ok (Some row) → after ≡ puts ++ (i, row) ∷ [] → stood ≡ were ++ (i, x) ∷ []
        → Replacing (i + 1) after stood
    replacing_some after stood row g a s = by (f (i + 1, x)) refl g
      where
        chosen : (y : Tuple) (b : Bool) → f (i + 1, x) ≡ Ok (y, b) → if_true (y, b) ≡ Some row → Replacing (i + 1) after stood
        chosen y true k m = next after stood y true k (a ∙ ap (λ z. puts ++ (i, z) ∷ []) (let q : row ≡ y = cc in q)) s
        chosen y false k m = absurd (cc)

        by : (s : Result Visited Refused) → f (i + 1, x) ≡ s → (s >>= (λ v. Ok (if_true v))) ≡ Ok (Some row) → Replacing (i + 1) after stood
        by (Ok (y, b)) k m = chosen y b k (let q : if_true (y, b) ≡ Some row = cc in q)
        by (Err d) k m = absurd (cc)

    pub replacing_none : told (i + 1, x) ≡ Ok None → Replacing (i + 1) puts were
    replacing_none g = by (f (i + 1, x)) refl g
      where
        chosen : (y : Tuple) (b : Bool) → f (i + 1, x) ≡ Ok (y, b) → if_true (y, b) ≡ None → Replacing (i + 1) puts were
        chosen y true k m = absurd (cc)
        chosen y false k m = next puts were y false k (sym (append-nil puts)) (sym (append-nil were))

        by : (s : Result Visited Refused) → f (i + 1, x) ≡ s → (s >>= (λ v. Ok (if_true v))) ≡ Ok None → Replacing (i + 1) puts were
        by (Ok (y, b)) k m = chosen y b k (let q : if_true (y, b) ≡ None = cc in q)
        by (Err d) k m = absurd (cc)

    pub replacing_fault : (fault : Refused) → told (i + 1, x) ≡ Err fault → (each f (enumerate_from 1 xs) >>= (λ visited. Ok (found xs visited))) ≡ Err fault
    replacing_fault fault g =
        ap (λ s. s >>= (λ visited. Ok (found xs visited))) (number_fault f xs i r.visited x fault h e (by (f (i + 1, x)) refl g) r.walk)
      where
        by : (s : Result Visited Refused) → f (i + 1, x) ≡ s → (s >>= (λ v. Ok (if_true v))) ≡ Err fault → f (i + 1, x) ≡ Err fault
        by (Ok v) k m = absurd (cc)
        by (Err d) k m = k ∙ ap Err (let q : d ≡ fault = cc in q)

  -- rows that are left, one behind another
  replacing_over : (k i : ℕ) (puts were : List (ℕ × Tuple)) → i + k ≤ length xs → ((at : ℕ) (x : Tuple) → at < length xs → x ≡ get_or xs at x → i ≤ at → at < i + k → f (at + 1, x) ≡ Ok (x, false))
      → Replacing i puts were → Replacing (i + k) puts were
  replacing_over zero i puts were h g r = subst (λ n. Replacing n puts were) (let e : i ≡ i + 0 = omega arith in e) r
  replacing_over (suc k) i puts were h g r =
      let x = get_or xs i [] in
      let l : i < length xs = omega (arith, h) in
      let e : x ≡ get_or xs i x = get_or_default xs i [] x l in
      subst (λ n. Replacing n puts were) (let m : (i + 1) + k ≡ i + suc k = omega arith in m)
      (replacing_over k (i + 1) puts were (omega (arith, h)) (λ at y a b c d. g at y a b (omega (arith, c)) (omega (arith, d))) (replacing_left i puts were x l e r (g i x l e (omega arith) (omega arith))))

  pub replacing_front : (n : ℕ) (puts were : List (ℕ × Tuple)) → n ≤ length xs → ((at : ℕ) (x : Tuple) → at < length xs → x ≡ get_or xs at x → at < n → f (at + 1, x) ≡ Ok (x, false))
      → puts ≡ [] → were ≡ [] → Replacing n puts were
  replacing_front n puts were h g p w =
      subst (λ m. Replacing m puts were) (let m : 0 + n ≡ n = omega arith in m)
      (replacing_over n 0 puts were (omega (arith, h)) (λ at x a b c d. g at x a b (omega (arith, d))) (replacing_start puts were p w))

  pub replacing_back : (i : ℕ) (puts were : List (ℕ × Tuple)) → i ≤ length xs → ((at : ℕ) (x : Tuple) → at < length xs → x ≡ get_or xs at x → i ≤ at → f (at + 1, x) ≡ Ok (x, false))
      → Replacing i puts were → Replacing (length xs) puts were
  replacing_back i puts were h g r =
      subst (λ m. Replacing m puts were) (let m : i + (length xs - i) ≡ length xs = omega (arith, h) in m)
      (replacing_over (length xs - i) i puts were (omega (arith, h)) (λ at x a b c d. g at x a b c) r)

  pub replacing_end : (i : ℕ) (puts were : List (ℕ × Tuple)) → length xs ≤ i → Replacing i puts were
      → (each f (enumerate_from 1 xs) >>= (λ visited. Ok (found xs visited))) ≡ Ok (record { puts = puts; were = were })
  replacing_end i puts were h r =
      ap (λ s. s >>= (λ visited. Ok (found xs visited))) (number_end f xs i r.visited h r.walk)
      ∙ ap (λ l. Ok (record { puts = l; were = taken xs r.visited })) (sym r.puts_are)
      ∙ ap (λ l. Ok (record { puts = puts; were = l })) (sym r.were_are)
