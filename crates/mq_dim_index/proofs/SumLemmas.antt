-- Sums over keys, by which two lists are found to have the same ones.
use Rattle.std.proofs.Common.{◌≡◌, ℕ, ◌+◌, List, [], ◌∷◌, Bool, true, false, ◌||◌, cond, ltb, Some, unwrap_or, Ordering, Less, Equal, Greater, refl, sym, ap, ◌∙◌, arith}
use Rattle.std.specs.BTreeMap.{is_at}
use Rattle.std.specs.BTreeSet.{insert_key}
use Rattle.std.specs.List.{filter, find, list_any, sum_by}
use Rattle.std.specs.Option.{option_map}
use Rattle.std.specs.Ordering.{is_eq, match_ordering}
use Rattle.std.specs.Set.{remove_key}
use Rattle.std.proofs.lemmas.Bool.Decides.{nat_tests}
use Rattle.std.proofs.lemmas.List.Sums.{sum_by-cons}
use Rattle.std.proofs.lemmas.Map.Made.{sum_by-remove_key}
use Rattle.mq_values.specs.Order.{cmp_key}
use Rattle.mq_values.specs.OrderTells.{same_key}
use Rattle.mq_dim_index.specs.Maps.{Arranged, MapsKeys, SameKeys, with_key_in, without_key_in}
use Rattle.mq_dim_index.specs.Places.{Tuple, is_there, with_key, without_key}
use Rattle.mq_dim_index.specs.Runs.{cmp_from}
use Rattle.mq_dim_index.proofs.MapLemmas.{told_alike}
use Rattle.mq_dim_index.proofs.NearLemmas.{equal_is}

module _ {K : Type 0} where
  -- a sum over what passes a test is a sum over all
  pub sum_by_filter : (f : K → ℕ) (p : K → Bool) (xs : List K) → sum_by f (filter p xs) ≡ sum_by (λ x. cond (p x) (f x) 0) xs
  sum_by_filter f p [] = refl
  sum_by_filter f p (x ∷ xs) = by (p x) (sum_by_filter f p xs) ∙ sym (sum_by-cons (λ x. cond (p x) (f x) 0) x xs)
    where
      by : (b : Bool) → sum_by f (filter p xs) ≡ sum_by (λ x. cond (p x) (f x) 0) xs → sum_by f (cond b (x ∷ filter p xs) (filter p xs)) ≡ cond b (f x) 0 + sum_by (λ x. cond (p x) (f x) 0) xs
      by true r = let more = sum_by-cons f x (filter p xs) in omega arith
      by false r = let e : sum_by (λ x. cond (p x) (f x) 0) xs ≡ 0 + sum_by (λ x. cond (p x) (f x) 0) xs = omega arith in r ∙ e

  -- whether one passes a test, by a sum
  any_by_sum : (p : K → Bool) (xs : List K) → list_any p xs ≡ ltb 0 (sum_by (λ x. cond (p x) 1 0) xs)
  any_by_sum p [] = grind (arith, nat_tests)
  any_by_sum p (x ∷ xs) = by (p x) (sum_by (λ x. cond (p x) 1 0) xs) (any_by_sum p xs) ∙ sym (ap (ltb 0) (sum_by-cons (λ x. cond (p x) 1 0) x xs))
    where
      by : (b : Bool) (n : ℕ) → list_any p xs ≡ ltb 0 n → (b || list_any p xs) ≡ ltb 0 (cond b 1 0 + n)
      by true n r = grind (arith, nat_tests)
      by false n r = let e : n ≡ 0 + n = omega arith in r ∙ ap (ltb 0) e

  -- a key that is new adds its term
  sum_inserted : (R : K → K → Ordering) (f : K → ℕ) (x : K) (ys : List K) → list_any (is_at (R x)) ys ≡ false → sum_by f (insert_key R ys x) ≡ f x + sum_by f ys
  sum_inserted R f x [] h = sum_by-cons f x []
  sum_inserted R f x (y ∷ ys) h = by (R x y) refl (sum_inserted R f x ys)
    where
      by : (r : Ordering) → R x y ≡ r → (list_any (is_at (R x)) ys ≡ false → sum_by f (insert_key R ys x) ≡ f x + sum_by f ys) →
          sum_by f (match_ordering r (x ∷ y ∷ ys) (y ∷ ys) (y ∷ insert_key R ys x)) ≡ f x + sum_by f (y ∷ ys)
      by Less e rest = sum_by-cons f x (y ∷ ys)
      by Equal e rest = let g : true ≡ false = sym (ap (λ r. is_eq r || list_any (is_at (R x)) ys) e) ∙ h in cc
      by Greater e rest =
          let one = rest (sym (ap (λ r. is_eq r || list_any (is_at (R x)) ys) e) ∙ h) in
          let two = sum_by-cons f y (insert_key R ys x) in
          let three = sum_by-cons f y ys in
          omega arith

  -- the term that a removal takes away
  term_found : (test : K → Bool) (x : K) → ((y : K) → test y ≡ true → y ≡ x) → (f : K → ℕ) (ys : List K) → unwrap_or (option_map f (find test ys)) 0 ≡ cond (list_any test ys) (f x) 0
  term_found test x tells f [] = refl
  term_found test x tells f (y ∷ ys) = by (test y) refl (term_found test x tells f ys)
    where
      by : (b : Bool) → test y ≡ b → unwrap_or (option_map f (find test ys)) 0 ≡ cond (list_any test ys) (f x) 0 → unwrap_or (option_map f (cond b (Some y) (find test ys))) 0 ≡ cond (b || list_any test ys) (f x) 0
      by true e rest = ap f (tells y e)
      by false e rest = rest

  sum_removed : (test : K → Bool) (x : K) → ((y : K) → test y ≡ true → y ≡ x) → (f : K → ℕ) (ys : List K) → sum_by f (remove_key test ys) + cond (list_any test ys) (f x) 0 ≡ sum_by f ys
  sum_removed test x tells f ys = ap (λ n. sum_by f (remove_key test ys) + n) (sym (term_found test x tells f ys)) ∙ sum_by-remove_key f test ys

module _ (d : ℕ) (key : Tuple) where
  one_test : is_at (cmp_from d key) ≡ is_at (cmp_key key)
  one_test i y = told_alike d key y i

  tells : (y : Tuple) → is_at (cmp_key key) y ≡ true → y ≡ key
  tells y h = sym (same_key key y (equal_is (cmp_key key y) h))

-- the same keys have the same among them
there_alike : (p : Tuple → Bool) (keys others : List Tuple) → SameKeys keys others → list_any p others ≡ list_any p keys
there_alike p keys others same = any_by_sum p others ∙ ap (ltb 0) (same (λ y. cond (p y) 1 0)) ∙ sym (any_by_sum p keys)

-- a map that has the keys has them with a key that is put into both
pub maps_with : (keys : List Tuple) (key : Tuple) (m : Arranged) → is_there keys key ≡ false → MapsKeys keys m → MapsKeys (with_key keys key) (with_key_in m key)
maps_with keys key m new same f =
    let lacks : list_any (is_at (cmp_from m.dimension key)) m.keys ≡ false =
    ap (λ p. list_any p m.keys) (one_test m.dimension key) ∙ there_alike (is_at (cmp_key key)) keys m.keys same ∙ new in
    let one = sum_inserted (cmp_from m.dimension) f key m.keys lacks in
    let two = sum_inserted cmp_key f key keys new in
    let three = same f in
    omega arith

-- and without one that is taken from both
pub maps_without : (keys : List Tuple) (key : Tuple) (m : Arranged) → MapsKeys keys m → MapsKeys (without_key keys key) (without_key_in m key)
maps_without keys key m same f =
    ap (λ p. sum_by f (remove_key p m.keys)) (one_test m.dimension key) ∙ fewer
  where
    fewer : sum_by f (remove_key (is_at (cmp_key key)) m.keys) ≡ sum_by f (remove_key (is_at (cmp_key key)) keys)
    fewer =
        let one = sum_removed (is_at (cmp_key key)) key (tells m.dimension key) f m.keys in
        let two = sum_removed (is_at (cmp_key key)) key (tells m.dimension key) f keys in
        let three = same f in
        let four : cond (list_any (is_at (cmp_key key)) m.keys) (f key) 0 ≡ cond (list_any (is_at (cmp_key key)) keys) (f key) 0 =
        ap (λ b. cond b (f key) 0) (there_alike (is_at (cmp_key key)) keys m.keys same) in
        omega arith

-- the same keys have the same that pass a test
pub same_filtered : (p : Tuple → Bool) (keys others : List Tuple) → SameKeys keys others → SameKeys (filter p keys) (filter p others)
same_filtered p keys others same f = sum_by_filter f p others ∙ same (λ x. cond (p x) (f x) 0) ∙ sym (sum_by_filter f p keys)
