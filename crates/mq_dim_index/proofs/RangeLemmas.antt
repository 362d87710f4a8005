-- The numbers of the keys that meet some tests.
use Rattle.std.proofs.Common.{◌≡◌, ℕ, zero, suc, ◌+◌, ◌-◌, ◌<◌, ◌≤◌, List, [], ◌∷◌, ◌++◌, Bool, true, false, cond, drop, length, get_or, map, refl, sym, subst, ap, ◌∙◌, arith}
use Rattle.std.specs.List.{All, AllWithin, enumerate_from, filter, range_with_len}
use Rattle.std.proofs.Math.ListN.{drop_of_length-le}
use Rattle.std.proofs.lemmas.List.{append-nil, drop_more}
use Rattle.std.proofs.lemmas.List.Elements.{All-cons, All-nil}
use Rattle.mq_values.specs.declared.operators.DimTest.{DimTest}
use Rattle.mq_dim_index.specs.Runs.{MissesOne}
use Rattle.mq_dim_index.specs.Places.{Tuple, meets_every, places_from, places_meeting}
use Rattle.mq_dim_index.specs.Spans.{IsSpan}

-- what each step leaves is left by all
pub steady : (F : ℕ → List ℕ) (a m : ℕ) → ((k : ℕ) → a ≤ k → k < a + m → F (k + 1) ≡ F k) → F (a + m) ≡ F a
steady F a zero h = let e : a + 0 ≡ a = omega arith in ap F e
steady F a (suc m) h =
    let e : a + suc m ≡ a + m + 1 = omega arith in
    ap F e ∙ h (a + m) (omega arith) (omega arith) ∙ steady F a m (λ k low l. h k low (omega arith))

module _ (tests : List DimTest) where
  -- the numbers from n on, where the first key meets the tests or does not
  pub first_meets : (n : ℕ) (key : Tuple) (keys : List Tuple) → meets_every tests key ≡ true → places_from n tests (key ∷ keys) ≡ n ∷ places_from (n + 1) tests keys
  first_meets n key keys h = ap (λ b. map (λ (e : ℕ × Tuple). e.0) (cond b ((n, key) ∷ rest) rest)) h
    where
      rest : List (ℕ × Tuple)
      rest = filter (λ e. meets_every tests e.1) (enumerate_from (n + 1) keys)

  pub first_fails : (n : ℕ) (key : Tuple) (keys : List Tuple) → meets_every tests key ≡ false → places_from n tests (key ∷ keys) ≡ places_from (n + 1) tests keys
  first_fails n key keys h = ap (λ b. map (λ (e : ℕ × Tuple). e.0) (cond b ((n, key) ∷ rest) rest)) h
    where
      rest : List (ℕ × Tuple)
      rest = filter (λ e. meets_every tests e.1) (enumerate_from (n + 1) keys)

  -- what stands at the numbers, where f gives the keys by their numbers
  given : (f : ℕ → Tuple) (n : ℕ) (keys : List Tuple) (d : Tuple) → ((i : ℕ) → i < length keys → f (n + i) ≡ get_or keys i d) → map f (places_from n tests keys) ≡ filter (meets_every tests) keys
  given f n [] d h = refl
  given f n (key ∷ keys) d h =
      by (meets_every tests key) refl (given f (n + 1) keys d (λ i l. let e : n + 1 + i ≡ n + suc i = omega arith in ap f e ∙ h (suc i) (omega arith)))
    where
      here : f n ≡ key
      here = let e : n ≡ n + 0 = omega arith in ap f e ∙ h 0 (omega arith)

      by : (b : Bool) → meets_every tests key ≡ b → map f (places_from (n + 1) tests keys) ≡ filter (meets_every tests) keys →
          map f (places_from n tests (key ∷ keys)) ≡ cond b (key ∷ filter (meets_every tests) keys) (filter (meets_every tests) keys)
      by true e rest = ap (map f) (first_meets n key keys e) ∙ (λ i. here i ∷ rest i)
      by false e rest = ap (map f) (first_fails n key keys e) ∙ rest

  pub keys_at_places : (keys : List Tuple) (d : Tuple) → map (λ p. get_or keys p d) (places_meeting tests keys) ≡ filter (meets_every tests) keys
  keys_at_places keys d = given (λ p. get_or keys p d) 0 keys d (λ i l. let e : 0 + i ≡ i = omega arith in ap (λ p. get_or keys p d) e)

  -- no number is past the last key
  all_below : (n m : ℕ) (keys : List Tuple) → n + length keys ≤ m → All (λ p. p < m) (places_from n tests keys)
  all_below n m [] h = All-nil (λ p. p < m)
  all_below n m (key ∷ keys) h = by (meets_every tests key) refl (all_below (n + 1) m keys (omega arith))
    where
      by : (b : Bool) → meets_every tests key ≡ b → All (λ p. p < m) (places_from (n + 1) tests keys) → All (λ p. p < m) (places_from n tests (key ∷ keys))
      by true e rest = subst (All (λ p. p < m)) (sym (first_meets n key keys e)) (All-cons (λ p. p < m) n (places_from (n + 1) tests keys) (omega arith) rest)
      by false e rest = subst (All (λ p. p < m)) (sym (first_fails n key keys e)) rest

  pub places_below : (keys : List Tuple) → All (λ p. p < length keys) (places_meeting tests keys)
  places_below keys = all_below 0 (length keys) keys (omega arith)

  -- a key that does not meet the tests adds none
  one_passed : (n : ℕ) (keys : List Tuple) → n < length keys → meets_every tests (get_or keys n []) ≡ false → places_from (n + 1) tests (drop (n + 1) keys) ≡ places_from n tests (drop n keys)
  one_passed n keys l h = sym (first_fails n (get_or keys n []) (drop (n + 1) keys) h) ∙ sym (ap (places_from n tests) (drop_more keys n [] l))

  -- nor do keys in a row
  pub places_behind : (keys : List Tuple) (a b : ℕ) → a ≤ b → b ≤ length keys → AllWithin (MissesOne tests) keys a b → places_from b tests (drop b keys) ≡ places_from a tests (drop a keys)
  places_behind keys a b l m h =
      let e : b ≡ a + (b - a) = omega arith in
      ap (λ k. places_from k tests (drop k keys)) e
      ∙ steady (λ k. places_from k tests (drop k keys)) a (b - a) (λ k low n. one_passed k keys (omega arith) (h k [] low (omega arith)))

  pub places_none : (keys : List Tuple) (a : ℕ) → a ≤ length keys → AllWithin (MissesOne tests) keys a (length keys) → places_from a tests (drop a keys) ≡ []
  places_none keys a l h =
      let all : length keys ≤ length keys = omega arith in
      sym (places_behind keys a (length keys) l all h) ∙ ap (places_from (length keys) tests) (drop_of_length-le keys all)

  -- keys in a row that all meet the tests
  met_so_far : (keys : List Tuple) (a n : ℕ) → a + n ≤ length keys → AllWithin (λ key. meets_every tests key ≡ true) keys a (a + n) →
      places_from a tests (drop a keys) ≡ range_with_len a n ++ places_from (a + n) tests (drop (a + n) keys)
  met_so_far keys a zero l h = let e : a ≡ a + 0 = omega arith in ap (λ k. places_from k tests (drop k keys)) e
  met_so_far keys a (suc n) l h =
      let e : a + 1 + n ≡ a + suc n = omega arith in
      ap (places_from a tests) (drop_more keys a [] (omega arith))
      ∙ first_meets a (get_or keys a []) (drop (a + 1) keys) (h a [] (omega arith) (omega arith))
      ∙ ap (λ l. a ∷ l)
      (met_so_far keys (a + 1) n (omega arith) (λ k d low m. h k d (omega arith) (omega arith))
      ∙ ap (λ k. range_with_len (a + 1) n ++ places_from k tests (drop k keys)) e)

  places_met : (keys : List Tuple) (a b : ℕ) → a ≤ b → b ≤ length keys → AllWithin (λ key. meets_every tests key ≡ true) keys a b →
      places_from a tests (drop a keys) ≡ range_with_len a (b - a) ++ places_from b tests (drop b keys)
  places_met keys a b l m h =
      let e : a + (b - a) ≡ b = omega arith in
      met_so_far keys a (b - a) (omega arith) (λ k d low n. h k d low (omega arith)) ∙ ap (λ k. range_with_len a (b - a) ++ places_from k tests (drop k keys)) e

  -- the keys of one row, and no others, meet the tests
  pub span_places : (keys : List Tuple) (start end : ℕ) → IsSpan (meets_every tests) keys start end → places_meeting tests keys ≡ range_with_len start (end - start)
  span_places keys start end span =
      let ordered = span.ordered in
      let within = span.within in
      sym (places_behind keys 0 start (omega arith) (omega arith) span.before)
      ∙ places_met keys start end ordered within span.among
      ∙ ap (λ l. range_with_len start (end - start) ++ l) (places_none keys end within span.behind)
      ∙ append-nil (range_with_len start (end - start))

  -- behind the last key there are no numbers
  pub places_behind_all : (keys : List Tuple) (ns : List ℕ) → ns ++ places_from (length keys) tests (drop (length keys) keys) ≡ ns
  places_behind_all keys ns =
      let all : length keys ≤ length keys = omega arith in
      ap (λ l. ns ++ places_from (length keys) tests l) (drop_of_length-le keys all) ∙ append-nil ns
