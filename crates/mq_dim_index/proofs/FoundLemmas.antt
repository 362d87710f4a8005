-- The numbers of the places of keys that were found in another order.
use Rattle.std.proofs.Common.{◌≡◌, ℕ, suc, ◌+◌, ◌-◌, ◌<◌, ◌≤◌, List, [], ◌∷◌, ◌++◌, Bool, true, false, cond, drop, eqb, length, get_or, Some, None, Less, Equal, refl, sym, subst, ap, ◌∙◌, inl, inr, ◌⊎◌, arith}
use Rattle.std.specs.List.{AllByRecursion, AllWithin, filter, sum_by}
use Rattle.std.specs.List.Sorted.{IsNonDecreasing, IsPermutation, IsSorted, IsStrictlySortedBy}
use Rattle.std.specs.Ordering.{nat_cmp}
use Rattle.std.proofs.Math.ListN.{drop_of_length-le}
use Rattle.std.proofs.lemmas.Bool.{cases_lt}
use Rattle.std.proofs.lemmas.Bool.Decides.{nat_tests}
use Rattle.std.proofs.lemmas.List.{append_assoc, drop_more, get_or_default}
use Rattle.std.proofs.lemmas.List.Sorted.{IsNonDecreasingBy-from_sort, sum_by-IsPermutation}
use Rattle.std.proofs.lemmas.List.Sums.{sum_by-append, sum_by-cons}
use Rattle.std.proofs.lemmas.Map.Keys.{non_decreasing_from_sorted}
use Rattle.mq_values.specs.Order.{cmp_key}
use Rattle.mq_values.specs.OrderLaws.{key_total}
use Rattle.mq_values.specs.OrderTells.{key_itself}
use Rattle.mq_values.specs.declared.operators.DimTest.{DimTest}
use Rattle.mq_dim_index.specs.Found.{listed, noted, number_if_met}
use Rattle.mq_dim_index.specs.Maps.{SameKeys}
use Rattle.mq_dim_index.specs.Places.{Tuple, meets_every, place_of, places_from, places_meeting}
use Rattle.mq_dim_index.proofs.PlaceLemmas.{found_here}
use Rattle.mq_dim_index.specs.Runs.{MissesOne}
use Rattle.mq_dim_index.proofs.RangeLemmas.{first_fails, first_meets, steady}
use Rattle.mq_dim_index.proofs.SumLemmas.{same_filtered}

-- ---- two lists of numbers that do not fall are one where all sums over them agree

none_counted : (f : ℕ → ℕ) (xs : List ℕ) → ((k : ℕ) → k < length xs → f (get_or xs k 0) ≡ 0) → sum_by f xs ≡ 0
none_counted f [] h = refl
none_counted f (x ∷ xs) h =
    let one = sum_by-cons f x xs in
    let two = h 0 (omega arith) in
    let three = none_counted f xs (λ k l. h (suc k) (omega arith)) in
    omega arith

tail_rises : (x : ℕ) (xs : List ℕ) → IsNonDecreasing (x ∷ xs) → IsNonDecreasing xs
tail_rises x xs s i j d le lt = s (suc i) (suc j) d (omega arith) (omega arith)

not_below : (x y : ℕ) (xs ys : List ℕ) → IsNonDecreasing (y ∷ ys) → ((f : ℕ → ℕ) → sum_by f (x ∷ xs) ≡ sum_by f (y ∷ ys)) → x < y → x ≡ y
not_below x y xs ys s same l =
    let one = sum_by-cons is_x x xs in
    let two = same is_x in
    let three : sum_by is_x (y ∷ ys) ≡ 0 = none_counted is_x (y ∷ ys) other in
    let four : is_x x ≡ 1 = grind (arith, nat_tests) in
    absurd (omega arith)
  where
    is_x : ℕ → ℕ
    is_x n = cond (eqb n x) 1 0

    other : (k : ℕ) → k < length (y ∷ ys) → is_x (get_or (y ∷ ys) k 0) ≡ 0
    other k m =
        let least : y ≤ get_or (y ∷ ys) k 0 = s 0 k 0 (omega arith) m in
        grind (arith, nat_tests, least, l)

heads_same : (x y : ℕ) (xs ys : List ℕ) → IsNonDecreasing (x ∷ xs) → IsNonDecreasing (y ∷ ys) → ((f : ℕ → ℕ) → sum_by f (x ∷ xs) ≡ sum_by f (y ∷ ys)) → x ≡ y
heads_same x y xs ys s t same = by (cases_lt x y)
  where
    up : (y ≤ x) → (y < x) ⊎ (x ≤ y) → x ≡ y
    up le (inl m) = sym (not_below y x ys xs s (λ f. sym (same f)) m)
    up le (inr m) = omega arith

    by : (x < y) ⊎ (y ≤ x) → x ≡ y
    by (inl l) = not_below x y xs ys t same l
    by (inr le) = up le (cases_lt y x)

sums_behind : (x y : ℕ) (xs ys : List ℕ) → x ≡ y → ((f : ℕ → ℕ) → sum_by f (x ∷ xs) ≡ sum_by f (y ∷ ys)) → (f : ℕ → ℕ) → sum_by f xs ≡ sum_by f ys
sums_behind x y xs ys e same f =
    let one = same f in
    let two = sum_by-cons f x xs in
    let three = sum_by-cons f y ys in
    let four = ap f e in
    omega arith

pub one_rising : (xs ys : List ℕ) → IsNonDecreasing xs → IsNonDecreasing ys → ((f : ℕ → ℕ) → sum_by f xs ≡ sum_by f ys) → xs ≡ ys
one_rising [] [] s t same = refl
one_rising [] (y ∷ ys) s t same =
    let one = same (λ n. 1) in
    let two = sum_by-cons (λ (n : ℕ). 1) y ys in
    absurd (omega arith)
one_rising (x ∷ xs) [] s t same =
    let one = same (λ n. 1) in
    let two = sum_by-cons (λ (n : ℕ). 1) x xs in
    absurd (omega arith)
one_rising (x ∷ xs) (y ∷ ys) s t same =
    let heads : x ≡ y = heads_same x y xs ys s t same in
    let tails : xs ≡ ys = one_rising xs ys (tail_rises x xs s) (tail_rises y ys t) (sums_behind x y xs ys heads same) in
    λ i. heads i ∷ tails i

-- ---- the numbers of the places of some keys

module _ (tests : List DimTest) (keys : List Tuple) where
  abbrev weight : (ℕ → ℕ) → Tuple → ℕ
  weight f key = sum_by f (listed (place_of keys key))

  sum_noted : (f : ℕ → ℕ) (others : List Tuple) → sum_by f (noted tests keys others) ≡ sum_by (weight f) (filter (meets_every tests) others)
  sum_noted f [] = refl
  sum_noted f (key ∷ others) = sum_by-append f (listed (number_if_met tests keys key)) (noted tests keys others) ∙ by (meets_every tests key) (sum_noted f others)
    where
      by : (b : Bool) → sum_by f (noted tests keys others) ≡ sum_by (weight f) (filter (meets_every tests) others) →
          sum_by f (listed (cond b (place_of keys key) None)) + sum_by f (noted tests keys others) ≡ sum_by (weight f) (cond b (key ∷ filter (meets_every tests) others) (filter (meets_every tests) others))
      by true r = ap (λ n. weight f key + n) r ∙ sym (sum_by-cons (weight f) key (filter (meets_every tests) others))
      by false r = let e : 0 + sum_by f (noted tests keys others) ≡ sum_by f (noted tests keys others) = omega arith in e ∙ r

  -- of the keys themselves they are the numbers that meet the tests
  noted_from : (n : ℕ) (others : List Tuple) → ((k : ℕ) → k < length others → place_of keys (get_or others k []) ≡ Some (n + k)) → noted tests keys others ≡ places_from n tests others
  noted_from n [] h = refl
  noted_from n (key ∷ others) h =
      by (meets_every tests key) refl (noted_from (n + 1) others (λ k l. let e : n + suc k ≡ n + 1 + k = omega arith in h (suc k) (omega arith) ∙ ap Some e))
    where
      here : place_of keys key ≡ Some n
      here = let e : n + 0 ≡ n = omega arith in h 0 (omega arith) ∙ ap Some e

      by : (b : Bool) → meets_every tests key ≡ b → noted tests keys others ≡ places_from (n + 1) tests others → noted tests keys (key ∷ others) ≡ places_from n tests (key ∷ others)
      by true e rest = (λ i. listed (cond (e i) (here i) None) ++ rest i) ∙ sym (first_meets tests n key others e)
      by false e rest = (λ i. listed (cond (e i) (place_of keys key) None) ++ rest i) ∙ sym (first_fails tests n key others e)

  noted_itself : IsStrictlySortedBy cmp_key keys → noted tests keys keys ≡ places_meeting tests keys
  noted_itself s =
      noted_from 0 keys
      (λ k l. let e : k ≡ 0 + k = omega arith in found_here key_total (get_or keys k []) keys k s l (λ d. itself k l d) ∙ ap Some e)
    where
      itself : (k : ℕ) → k < length keys → (d : Tuple) → cmp_key (get_or keys k d) (get_or keys k []) ≡ Equal
      itself k l d = ap (λ y. cmp_key y (get_or keys k [])) (get_or_default keys k d [] l) ∙ key_itself (get_or keys k [])

  all_above : (m n : ℕ) (others : List Tuple) → m < n → AllByRecursion (λ p. nat_cmp m p ≡ Less) (places_from n tests others)
  all_above m n [] l = tt
  all_above m n (key ∷ others) l = by (meets_every tests key) refl (all_above m (n + 1) others (omega arith))
    where
      by : (b : Bool) → meets_every tests key ≡ b → AllByRecursion (λ p. nat_cmp m p ≡ Less) (places_from (n + 1) tests others) → AllByRecursion (λ p. nat_cmp m p ≡ Less) (places_from n tests (key ∷ others))
      by true e rest = subst (AllByRecursion (λ p. nat_cmp m p ≡ Less)) (sym (first_meets tests n key others e)) (grind (arith, nat_tests, l), rest)
      by false e rest = subst (AllByRecursion (λ p. nat_cmp m p ≡ Less)) (sym (first_fails tests n key others e)) rest

  places_rise : (n : ℕ) (others : List Tuple) → IsStrictlySortedBy nat_cmp (places_from n tests others)
  unfolding IsStrictlySortedBy
  places_rise n [] = tt
  places_rise n (key ∷ others) = by (meets_every tests key) refl (places_rise (n + 1) others)
    where
      by : (b : Bool) → meets_every tests key ≡ b → IsStrictlySortedBy nat_cmp (places_from (n + 1) tests others) → IsStrictlySortedBy nat_cmp (places_from n tests (key ∷ others))
      by true e rest = subst (IsStrictlySortedBy nat_cmp) (sym (first_meets tests n key others e)) (all_above n (n + 1) others (omega arith), rest)
      by false e rest = subst (IsStrictlySortedBy nat_cmp) (sym (first_fails tests n key others e)) rest

  -- the numbers with those of one more key
  pub one_noted : (found : List Tuple) (i : ℕ) (key : Tuple) (places more total : List ℕ) → i < length found → key ≡ get_or found i key → more ≡ places ++ listed (number_if_met tests keys key) →
      places ++ noted tests keys (drop i found) ≡ total → more ++ noted tests keys (drop (i + 1) found) ≡ total
  one_noted found i key places more total l is e before =
      ap (λ m. m ++ noted tests keys (drop (i + 1) found)) e
      ∙ append_assoc places (listed (number_if_met tests keys key)) (noted tests keys (drop (i + 1) found))
      ∙ ap (λ k. places ++ (listed (number_if_met tests keys k) ++ noted tests keys (drop (i + 1) found))) is
      ∙ sym (ap (λ l. places ++ noted tests keys l) (drop_more found i key l))
      ∙ before

  -- keys that do not meet the tests add none
  one_missed : (found : List Tuple) (i : ℕ) → i < length found → meets_every tests (get_or found i []) ≡ false → noted tests keys (drop (i + 1) found) ≡ noted tests keys (drop i found)
  one_missed found i l h =
      (λ j. listed (cond (sym h j) (place_of keys (get_or found i [])) None) ++ noted tests keys (drop (i + 1) found))
      ∙ sym (ap (noted tests keys) (drop_more found i [] l))

  pub noted_behind : (found : List Tuple) (a b : ℕ) → a ≤ b → b ≤ length found → AllWithin (MissesOne tests) found a b → noted tests keys (drop b found) ≡ noted tests keys (drop a found)
  noted_behind found a b l m h =
      let e : b ≡ a + (b - a) = omega arith in
      ap (λ k. noted tests keys (drop k found)) e
      ∙ steady (λ k. noted tests keys (drop k found)) a (b - a) (λ k low n. one_missed found k (omega arith) (h k [] low (omega arith)))

  pub noted_none : (found : List Tuple) (a : ℕ) → a ≤ length found → AllWithin (MissesOne tests) found a (length found) → noted tests keys (drop a found) ≡ []
  noted_none found a l h =
      let all : length found ≤ length found = omega arith in
      sym (noted_behind found a (length found) l all h) ∙ ap (noted tests keys) (drop_of_length-le found all)

  -- what a sort leaves of the numbers of keys that were found in another order
  pub sorted_numbers : (found : List Tuple) (places sorted : List ℕ) → IsStrictlySortedBy cmp_key keys → SameKeys keys found → places ≡ noted tests keys found → IsPermutation places sorted → IsSorted nat_cmp sorted → sorted ≡ places_meeting tests keys
  sorted_numbers found places sorted s same is p rises =
      one_rising sorted (places_meeting tests keys) (IsNonDecreasingBy-from_sort (λ n. n) sorted rises) (non_decreasing_from_sorted (places_meeting tests keys) (places_rise 0 keys))
      (λ f.
      sum_by-IsPermutation f places sorted p
      ∙ ap (sum_by f) is
      ∙ sum_noted f found
      ∙ same_filtered (meets_every tests) keys found same (weight f)
      ∙ sym (sum_noted f keys)
      ∙ ap (sum_by f) (noted_itself s))
