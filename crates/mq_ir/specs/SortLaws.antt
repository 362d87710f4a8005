-- Ascending lists: how they are told, and what a stable sort gives.
use Rattle.std.proofs.Common.{◌≡◌, ℕ, suc, ◌<◌, ◌≤◌, List, [], ◌∷◌, Bool, true, false, not, ◌&&◌, cond, length, map, get_or, Ordering, Less, Equal, Greater, refl, sym, ap, ◌∙◌, arith}
use Rattle.std.specs.Prelude.{if◌then◌else◌}
use Rattle.std.specs.Cmp.{IsTotalOrder, tied_itself}
use Rattle.std.specs.List.{filter}
use Rattle.std.specs.List.Sorted.{IsSorted, IsStable}
use Rattle.std.specs.Ordering.{is_eq, is_gt, is_lt, on, ordering_reverse}
use Rattle.std.proofs.lemmas.List.Sorted.{ranks_by, sorted_far}
use Rattle.mq_ir.specs.Partitions.{ascending, placed}
use Rattle.mq_ir.specs.Rising.{Low, Rising}

equal_is : (r : Ordering) → is_eq r ≡ true → r ≡ Equal
equal_is Less h = cc
equal_is Equal h = refl
equal_is Greater h = cc

turned : (r : Ordering) → is_lt (ordering_reverse r) ≡ is_gt r
turned Less = refl
turned Equal = refl
turned Greater = refl

-- what a test keeps of a list that has been put in order
module _ {K : Type 0} (R : K → K → Ordering) (test : K → Bool) (alike : (x y : K) → test x ≡ true → test y ≡ true → is_gt (R x y) ≡ false) where
  kept_placed : (x : K) (ys : List K) → filter test (placed R x ys) ≡ filter test (x ∷ ys)
  kept_placed x [] = refl
  kept_placed x (y ∷ ys) = by (is_gt (R x y)) refl (kept_placed x ys)
    where
      pick : is_gt (R x y) ≡ true → (a b : Bool) → test x ≡ a → test y ≡ b → filter test (placed R x ys) ≡ cond a (x ∷ filter test ys) (filter test ys)
          → cond b (y ∷ filter test (placed R x ys)) (filter test (placed R x ys)) ≡ cond a (x ∷ cond b (y ∷ filter test ys) (filter test ys)) (cond b (y ∷ filter test ys) (filter test ys))
      pick g true true e f h = let k = alike x y e f in cc
      pick g true false e f h = h
      pick g false true e f h = ap (λ l. y ∷ l) h
      pick g false false e f h = h

      by : (g : Bool) → is_gt (R x y) ≡ g → filter test (placed R x ys) ≡ filter test (x ∷ ys) → filter test (if g then y ∷ placed R x ys else x ∷ y ∷ ys) ≡ filter test (x ∷ y ∷ ys)
      by true e h = pick e (test x) (test y) refl refl h
      by false e h = refl

  -- a test that passes only items that the order does not tell apart keeps them in their order
  pub kept_ascending : (xs : List K) → filter test (ascending R xs) ≡ filter test xs
  kept_ascending [] = refl
  kept_ascending (x ∷ xs) = kept_placed x (ascending R xs) ∙ ap (λ l. cond (test x) (x ∷ l) l) (kept_ascending xs)

-- an order of items by what f gives of them
module _ {A K : Type 0} (f : A → K) (R : K → K → Ordering) where
  mapped_placed : (x : A) (ys : List A) → map f (placed (on f R) x ys) ≡ placed R (f x) (map f ys)
  mapped_placed x [] = refl
  mapped_placed x (y ∷ ys) = by (is_gt (R (f x) (f y))) (mapped_placed x ys)
    where
      by : (g : Bool) → map f (placed (on f R) x ys) ≡ placed R (f x) (map f ys) → map f (if g then y ∷ placed (on f R) x ys else x ∷ y ∷ ys) ≡ (if g then f y ∷ placed R (f x) (map f ys) else f x ∷ f y ∷ map f ys)
      by true h = ap (λ l. f y ∷ l) h
      by false h = refl

  pub mapped_ascending : (xs : List A) → map f (ascending (on f R) xs) ≡ ascending R (map f xs)
  mapped_ascending [] = refl
  mapped_ascending (x ∷ xs) = mapped_placed x (ascending (on f R) xs) ∙ ap (placed R (f x)) (mapped_ascending xs)

module _ {K : Type 0} {R : K → K → Ordering} (o : IsTotalOrder R) where
  pub greater_is : (x y : K) → is_gt (R x y) ≡ is_lt (R y x)
  greater_is x y = sym (turned (R x y)) ∙ ap is_lt (sym (o.antisymm y x))

  low_under : (x y : K) (zs : List K) → is_lt (R y x) ≡ false → Low R y zs → Low R x zs
  low_under x y [] h l = tt
  low_under x y (z ∷ zs) h l = ((ranks_by o (λ k. k)).chain z y x l.0 h, low_under x y zs h l.1)

  low_placed : (x y : K) (zs : List K) → is_lt (R x y) ≡ false → Low R y zs → Low R y (placed R x zs)
  low_placed x y [] h l = (h, tt)
  low_placed x y (z ∷ zs) h l = by (is_gt (R x z)) (low_placed x y zs h l.1)
    where
      by : (g : Bool) → Low R y (placed R x zs) → Low R y (if g then z ∷ placed R x zs else x ∷ z ∷ zs)
      by true r = (l.0, r)
      by false r = (h, l)

  rising_placed : (x : K) (ys : List K) → Rising R ys → Rising R (placed R x ys)
  rising_placed x [] r = (tt, tt)
  rising_placed x (y ∷ ys) r = by (is_gt (R x y)) refl (rising_placed x ys r.1)
    where
      by : (g : Bool) → is_gt (R x y) ≡ g → Rising R (placed R x ys) → Rising R (if g then y ∷ placed R x ys else x ∷ y ∷ ys)
      by true e s =
          let back : is_lt (R y x) ≡ true = sym (greater_is x y) ∙ e in
          (low_placed x y ys ((ranks_by o (λ k. k)).one_way y x back) r.0, s)
      by false e s =
          let up : is_lt (R y x) ≡ false = sym (greater_is x y) ∙ e in
          ((up, low_under x y ys up r.0), r)

  pub rising_ascending : (xs : List K) → Rising R (ascending R xs)
  rising_ascending [] = tt
  rising_ascending (x ∷ xs) = rising_placed x (ascending R xs) (rising_ascending xs)

  low_kept : (p : K → Bool) (x : K) (ys : List K) → Low R x ys → Low R x (filter p ys)
  low_kept p x [] l = tt
  low_kept p x (y ∷ ys) l = by (p y) (low_kept p x ys l.1)
    where
      by : (b : Bool) → Low R x (filter p ys) → Low R x (cond b (y ∷ filter p ys) (filter p ys))
      by true r = (l.0, r)
      by false r = r

  pub rising_kept : (p : K → Bool) (xs : List K) → Rising R xs → Rising R (filter p xs)
  rising_kept p [] r = tt
  rising_kept p (x ∷ xs) r = by (p x) (rising_kept p xs r.1)
    where
      by : (b : Bool) → Rising R (filter p xs) → Rising R (cond b (x ∷ filter p xs) (filter p xs))
      by true s = (low_kept p x xs r.0, s)
      by false s = s

  -- the items that the order does not tell from q
  abbrev pub tied : K → K → Bool
  tied q x = is_eq (R q x)

  tied_alike : (q x y : K) → tied q x ≡ true → tied q y ≡ true → is_gt (R x y) ≡ false
  tied_alike q x y e f = ap is_gt (sym (o.congr q x y (equal_is (R q x) e)) ∙ equal_is (R q y) f)

  pub tied_ascending : (q : K) (xs : List K) → filter (tied q) (ascending R xs) ≡ filter (tied q) xs
  tied_ascending q = kept_ascending R (tied q) (tied_alike q)

  -- where x is less than y, it is less than what is not less than y
  pub less_on : (x y z : K) → R x y ≡ Less → is_lt (R z y) ≡ false → R x z ≡ Less
  less_on x y z h l = by (R x z) refl
    where
      by : (r : Ordering) → R x z ≡ r → r ≡ Less
      by Less e = refl
      by Equal e = let t : is_lt (R z y) ≡ true = ap is_lt (sym (o.congr x z y e) ∙ h) in cc
      by Greater e = let t : is_lt (R z y) ≡ true = ap is_lt (o.trans z x y (o.antisymm z x ∙ ap ordering_reverse e) h) in cc

  pub none_tied : (x y : K) (zs : List K) → R x y ≡ Less → Low R y zs → filter (tied x) zs ≡ []
  none_tied x y [] h l = refl
  none_tied x y (z ∷ zs) h l = ap (λ r. cond (is_eq r) (z ∷ filter (tied x) zs) (filter (tied x) zs)) (less_on x y z h l.0) ∙ none_tied x y zs h l.1

  tied_first : (x : K) (xs : List K) → filter (tied x) (x ∷ xs) ≡ x ∷ filter (tied x) xs
  tied_first x xs = ap (λ r. cond (is_eq r) (x ∷ filter (tied x) xs) (filter (tied x) xs)) (tied_itself o x)

  pub none_front : (x y : K) (ys : List K) → R x y ≡ Less → Low R y ys → filter (tied x) (y ∷ ys) ≡ []
  none_front x y ys h l = ap (λ r. cond (is_eq r) (y ∷ filter (tied x) ys) (filter (tied x) ys)) h ∙ none_tied x y ys h l

  abbrev first_or : K → List K → K
  first_or d [] = d
  first_or d (x ∷ xs) = x

  abbrev rest_of : List K → List K
  rest_of [] = []
  rest_of (x ∷ xs) = xs

  abbrev is_none : List K → Bool
  is_none [] = true
  is_none (x ∷ xs) = false

  -- two lists that rise are one where they have the same items in each tie, in the same order
  pub one_rising : (xs ys : List K) → Rising R xs → Rising R ys → ((q : K) → filter (tied q) xs ≡ filter (tied q) ys) → xs ≡ ys
  one_rising [] [] r s h = refl
  one_rising [] (y ∷ ys) r s h = let e : true ≡ false = ap is_none (h y ∙ tied_first y ys) in cc
  one_rising (x ∷ xs) [] r s h = let e : false ≡ true = ap is_none (sym (tied_first x xs) ∙ h x) in cc
  one_rising (x ∷ xs) (y ∷ ys) r s h = by (R x y) refl (one_rising xs ys r.1 s.1)
    where
      missing : (x y : K) (xs ys : List K) → R x y ≡ Less → Low R y ys → filter (tied x) (x ∷ xs) ≡ filter (tied x) (y ∷ ys) → false ≡ true
      missing x y xs ys e l same = ap is_none (sym (tied_first x xs) ∙ same ∙ none_front x y ys e l)

      other : (q : K) → R x y ≡ Equal → tied q x ≡ tied q y
      other q e = ap is_eq (o.antisymm q x ∙ ap ordering_reverse (o.congr x y q e) ∙ sym (o.antisymm q y))

      dropped : (a b : Bool) → a ≡ b → (us vs : List K) → cond a (x ∷ us) us ≡ cond b (y ∷ vs) vs → us ≡ vs
      dropped true true e us vs h = ap rest_of h
      dropped false false e us vs h = h
      dropped true false e us vs h = absurd (cc)
      dropped false true e us vs h = absurd (cc)

      by : (t : Ordering) → R x y ≡ t → (((q : K) → filter (tied q) xs ≡ filter (tied q) ys) → xs ≡ ys) → x ∷ xs ≡ y ∷ ys
      by Less e f = let g = missing x y xs ys e s.0 (h x) in cc
      by Greater e f = let g = missing y x ys xs (o.antisymm y x ∙ ap ordering_reverse e) r.0 (sym (h y)) in cc
      by Equal e f =
          let p : x ≡ y = ap (first_or x) (sym (tied_first x xs) ∙ h x ∙ ap (λ r. cond (is_eq r) (y ∷ filter (tied x) ys) (filter (tied x) ys)) e) in
          let rest = f (λ q. dropped (tied q x) (tied q y) (other q e) (filter (tied q) xs) (filter (tied q) ys) (h q)) in
          λ i. p i ∷ rest i

  -- an order by what f gives of items, and a sort by it
  tie_is : (r s : Ordering) → s ≡ ordering_reverse r → not (is_lt r) && not (is_lt s) ≡ is_eq r
  tie_is Less s e = refl
  tie_is Equal s e = ap (λ t. not (is_lt t)) e
  tie_is Greater s e = ap (λ t. not (is_lt t)) e

  low_far : (x : K) (ys : List K) → ((j : ℕ) (d : K) → j < length ys → is_lt (R (get_or ys j d) x) ≡ false) → Low R x ys
  low_far x [] h = tt
  low_far x (y ∷ ys) h = (h 0 y (omega arith), low_far x ys (λ j d l. h (suc j) d (omega arith)))

  rising_far : (xs : List K) → ((i j : ℕ) (d : K) → i ≤ j → j < length xs → is_lt (R (get_or xs j d) (get_or xs i d)) ≡ false) → Rising R xs
  rising_far [] h = tt
  rising_far (x ∷ xs) h =
      (low_far x xs (λ j d l. h 0 (suc j) d (omega arith) (omega arith)), rising_far xs (λ i j d a l. h (suc i) (suc j) d (omega arith) (omega arith)))

  pub stable_is_ascending : (xs ys : List K) → IsSorted R ys → IsStable R xs ys → ys ≡ ascending R xs
  stable_is_ascending xs ys s t =
      one_rising ys (ascending R xs)
      (rising_far ys (sorted_far (λ x y. is_lt (R x y)) (ranks_by o (λ k. k)) ys s))
      (rising_ascending xs)
      (λ q. ap (λ (p : K → Bool). filter p ys) (as_ties q) ∙ t q ∙ sym (ap (λ (p : K → Bool). filter p xs) (as_ties q)) ∙ sym (tied_ascending q xs))
    where
      as_ties : (q : K) → tied q ≡ (λ (x : K). not (is_lt (R q x)) && not (is_lt (R x q)))
      as_ties q = λ i x. sym (tie_is (R q x) (R x q) (o.antisymm x q)) i
