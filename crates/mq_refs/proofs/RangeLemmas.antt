-- The places of the keys that meet some tests.
use Rattle.std.proofs.Common.{◌≡◌, ℕ, suc, ◌+◌, ◌<◌, ◌≤◌, List, [], ◌∷◌, Bool, true, false, cond, length, get_or, map, refl, sym, subst, ap, ◌∙◌, arith}
use Rattle.std.specs.List.{All, enumerate_from, filter}
use Rattle.std.proofs.lemmas.List.Elements.{All-cons, All-nil}
use Rattle.mq_values.specs.declared.operators.DimTest.{DimTest}
use Rattle.mq_dim_index.specs.Places.{Tuple, meets_every, places_from, places_meeting}

module _ (tests : List DimTest) where
  -- the numbers from n on, where the first key meets the tests or does not
  pub first_meets : (n : ℕ) (key : Tuple) (keys : List Tuple) → meets_every tests key ≡ true → places_from n tests (key ∷ keys) ≡ n ∷ places_from (n + 1) tests keys
  first_meets n key keys h = ap (λ b. map (λ (e : ℕ × Tuple). e.0) (cond b ((n, key) ∷ rest) rest)) h
    where
      rest : List (ℕ × Tuple)
      rest = filter (λ e. meets_every tests e.1) (enumerate_from (n + 1) keys)

  pub first_fails : (n : ℕ) (key : Tuple) (keys : List Tuple) → meets_every tests key ≡ false → places_from n tests (key ∷ keys) ≡ places_from (n + 1) tests keys
  first_fails n key keys h = ap (λ b. map (λ (e : ℕ × Tuple). e.0) (cond b ((n, key) ∷ rest) rest)) h
    where
      rest : List (ℕ × Tuple)
      rest = filter (λ e. meets_every tests e.1) (enumerate_from (n + 1) keys)

  -- what stands at the numbers, where f gives the keys by their numbers
  given : (f : ℕ → Tuple) (n : ℕ) (keys : List Tuple) (d : Tuple) → ((i : ℕ) → i < length keys → f (n + i) ≡ get_or keys i d) → map f (places_from n tests keys) ≡ filter (meets_every tests) keys
  given f n [] d h = refl
  given f n (key ∷ keys) d h =
      by (meets_every tests key) refl (given f (n + 1) keys d (λ i l. let e : n + 1 + i ≡ n + suc i = omega arith in ap f e ∙ h (suc i) (omega arith)))
    where
      here : f n ≡ key
      here = let e : n ≡ n + 0 = omega arith in ap f e ∙ h 0 (omega arith)

      by : (b : Bool) → meets_every tests key ≡ b → map f (places_from (n + 1) tests keys) ≡ filter (meets_every tests) keys →
          map f (places_from n tests (key ∷ keys)) ≡ cond b (key ∷ filter (meets_every tests) keys) (filter (meets_every tests) keys)
      by true e rest = ap (map f) (first_meets n key keys e) ∙ (λ i. here i ∷ rest i)
      by false e rest = ap (map f) (first_fails n key keys e) ∙ rest

  pub keys_at_places : (keys : List Tuple) (d : Tuple) → map (λ p. get_or keys p d) (places_meeting tests keys) ≡ filter (meets_every tests) keys
  keys_at_places keys d = given (λ p. get_or keys p d) 0 keys d (λ i l. let e : 0 + i ≡ i = omega arith in ap (λ p. get_or keys p d) e)

  -- no number is past the last key
  all_below : (n m : ℕ) (keys : List Tuple) → n + length keys ≤ m → All (λ p. p < m) (places_from n tests keys)
  all_below n m [] h = All-nil (λ p. p < m)
  all_below n m (key ∷ keys) h = by (meets_every tests key) refl (all_below (n + 1) m keys (omega arith))
    where
      by : (b : Bool) → meets_every tests key ≡ b → All (λ p. p < m) (places_from (n + 1) tests keys) → All (λ p. p < m) (places_from n tests (key ∷ keys))
      by true e rest = subst (All (λ p. p < m)) (sym (first_meets n key keys e)) (All-cons (λ p. p < m) n (places_from (n + 1) tests keys) (omega arith) rest)
      by false e rest = subst (All (λ p. p < m)) (sym (first_fails n key keys e)) rest

  pub places_below : (keys : List Tuple) → All (λ p. p < length keys) (places_meeting tests keys)
  places_below keys = all_below 0 (length keys) keys (omega arith)
