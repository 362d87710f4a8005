-- Items put together round by round, and put in order by the numbers of their rounds. For any items.
use Rattle.std.proofs.Common.{◌≡◌, ℕ, zero, suc, ◌+◌, ◌<◌, ◌≤◌, Bool, true, false, ◌&&◌, not, List, [], ◌∷◌, ◌++◌, cond, Ordering, Equal, Greater, refl, sym, ap, subst, ◌∙◌, add-one, arith}
use Rattle.std.specs.Cmp.{IsTotalOrder, nat_cmp_is}
use Rattle.std.specs.List.{filter, flat_map, range_with_len}
use Rattle.std.specs.Ordering.{is_lt, nat_cmp, on, ordering_then, then_cmp}
use Rattle.std.proofs.lemmas.List.{append-nil}
use Rattle.std.proofs.lemmas.List.Elements.{filter-append}
use Rattle.mq_ir.specs.EachLaws.{Each, each_append}
use Rattle.mq_ir.specs.Rising.{Low, Rising}
use Rattle.mq_ir.specs.SortLaws.{rising_kept}

each_weaker : {X : Type 0} (P Q : X → Type 0) → ((x : X) → P x → Q x) → (xs : List X) → Each P xs → Each Q xs
each_weaker P Q h [] a = tt
each_weaker P Q h (x ∷ xs) a = (h x a.0, each_weaker P Q h xs a.1)

each_passes : {X : Type 0} (p : X → Bool) (xs : List X) → Each (λ x. p x ≡ true) (filter p xs)
each_passes p [] = tt
each_passes {X} p (x ∷ xs) = by (p x) refl (each_passes p xs)
  where
    by : (b : Bool) → p x ≡ b → Each (λ x. p x ≡ true) (filter p xs) → Each (λ x. p x ≡ true) (cond b (x ∷ filter p xs) (filter p xs))
    by true e rest = (e, rest)
    by false e rest = rest

-- ---- what rises behind what rises
module _ {K : Type 0} (R : K → K → Ordering) where
  low_append : (x : K) (xs ys : List K) → Low R x xs → Low R x ys → Low R x (xs ++ ys)
  low_append x [] ys a b = b
  low_append x (y ∷ xs) ys a b = (a.0, low_append x xs ys a.1 b)

  rising_append : (xs ys : List K) → Rising R xs → Rising R ys → Each (λ x. Low R x ys) xs → Rising R (xs ++ ys)
  rising_append [] ys r s e = s
  rising_append (x ∷ xs) ys r s e = (low_append x xs ys r.0 e.0, rising_append xs ys r.1 s e.1)

-- ---- items by their numbers, and then by another order
module _ {K : Type 0} (number : K → ℕ) (S : K → K → Ordering) where
  abbrev by_number : K → K → Ordering
  by_number = then_cmp (on number nat_cmp) S

  same_number : (x y : K) → number x ≡ number y → by_number x y ≡ S x y
  same_number x y h = ap (λ r. ordering_then r (S x y)) (sym (nat_cmp_is (number x) (number y) Equal h))

  low_same : (k : ℕ) (x : K) (ys : List K) → number x ≡ k → Each (λ y. number y ≡ k) ys → Low S x ys → Low by_number x ys
  low_same k x [] e a l = tt
  low_same k x (y ∷ ys) e a l = (ap is_lt (same_number y x (a.0 ∙ sym e)) ∙ l.0, low_same k x ys e a.1 l.1)

  rising_same : (k : ℕ) (ys : List K) → Each (λ y. number y ≡ k) ys → Rising S ys → Rising by_number ys
  rising_same k [] a r = tt
  rising_same k (y ∷ ys) a r = (low_same k y ys a.0 a.1 r.0, rising_same k ys a.1 r.1)

  low_later : (x : K) (ys : List K) → Each (λ y. number x < number y) ys → Low by_number x ys
  low_later x [] a = tt
  low_later x (y ∷ ys) a =
      (ap (λ r. is_lt (ordering_then r (S y x))) (sym (nat_cmp_is (number y) (number x) Greater a.0)), low_later x ys a.1)

-- ---- items that come in rounds: behind each round more of them are done
module _ {K : Type 0} (done : ℕ → K → Bool) (xs : List K) where
  abbrev pub comes : ℕ → K → Bool
  comes n x = done (suc n) x && not (done n x)

  abbrev pub round : ℕ → List K
  round n = filter (comes n) xs

  -- n rounds from round a on
  abbrev pub rounds : ℕ → ℕ → List K
  rounds a n = flat_map round (range_with_len a n)

  -- where each item is numbered by its round, they rise by their numbers
  module _ (number : K → ℕ) (S : K → K → Ordering) (o : IsTotalOrder S) (rise : Rising S xs)
      (numbered : (n : ℕ) (x : K) → comes n x ≡ true → number x ≡ suc n) where
    in_round : (n : ℕ) → Each (λ x. number x ≡ suc n) (round n)
    in_round n = each_weaker (λ x. comes n x ≡ true) (λ x. number x ≡ suc n) (numbered n) (round n) (each_passes (comes n) xs)

    behind : (n a k : ℕ) → k ≤ a → Each (λ x. k < number x) (rounds a n)
    behind zero a k h = tt
    behind (suc n) a k h =
        each_append (λ x. k < number x) (round a) (rounds (a + 1) n)
        (each_weaker (λ x. number x ≡ suc a) (λ x. k < number x) (λ x e. omega (arith, e, h)) (round a) (in_round a))
        (behind n (a + 1) k (omega (arith, h)))

    pub rounds_rise : (n a : ℕ) → Rising (by_number number S) (rounds a n)
    rounds_rise zero a = tt
    rounds_rise (suc n) a =
        rising_append (by_number number S) (round a) (rounds (a + 1) n)
        (rising_same number S (suc a) (round a) (in_round a) (rising_kept o (comes a) xs rise)) (rounds_rise n (a + 1))
        (each_weaker (λ x. number x ≡ suc a) (λ x. Low (by_number number S) x (rounds (a + 1) n)) later (round a) (in_round a))
      where
        later : (x : K) → number x ≡ suc a → Low (by_number number S) x (rounds (a + 1) n)
        later x e =
            low_later number S x (rounds (a + 1) n)
            (subst (λ k. Each (λ y. k < number y) (rounds (a + 1) n)) (sym e) (behind n (a + 1) (suc a) (omega arith)))

  -- a test that tells apart items by their rounds keeps of them all what it keeps of the items
  module _ (t : K → Bool) (level : ℕ → Bool) (alike : (n : ℕ) (x : K) → t x ≡ true → done n x ≡ level n)
      (grows : (n : ℕ) → level n ≡ true → level (suc n) ≡ true) where
    comes_alike : (n : ℕ) (x : K) → t x ≡ true → comes n x ≡ (level (suc n) && not (level n))
    comes_alike n x h = λ i. alike (suc n) x h i && not (alike n x h i)

    all_kept : (n : ℕ) (ys : List K) → (level (suc n) && not (level n)) ≡ true → filter t (filter (comes n) ys) ≡ filter t ys
    all_kept n [] h = refl
    all_kept n (y ∷ ys) h = by (t y) refl (comes n y) refl (all_kept n ys h)
      where
        by : (a : Bool) → t y ≡ a → (b : Bool) → comes n y ≡ b → filter t (filter (comes n) ys) ≡ filter t ys
            → filter t (cond b (y ∷ filter (comes n) ys) (filter (comes n) ys)) ≡ cond a (y ∷ filter t ys) (filter t ys)
        by true f true g r = ap (λ c. cond c (y ∷ filter t (filter (comes n) ys)) (filter t (filter (comes n) ys))) f ∙ ap (λ l. y ∷ l) r
        by true f false g r = let k : false ≡ true = sym g ∙ comes_alike n y f ∙ h in cc
        by false f true g r = ap (λ c. cond c (y ∷ filter t (filter (comes n) ys)) (filter t (filter (comes n) ys))) f ∙ r
        by false f false g r = r

    none_kept : (n : ℕ) (ys : List K) → (level (suc n) && not (level n)) ≡ false → filter t (filter (comes n) ys) ≡ []
    none_kept n [] h = refl
    none_kept n (y ∷ ys) h = by (t y) refl (comes n y) refl (none_kept n ys h)
      where
        by : (a : Bool) → t y ≡ a → (b : Bool) → comes n y ≡ b → filter t (filter (comes n) ys) ≡ []
            → filter t (cond b (y ∷ filter (comes n) ys) (filter (comes n) ys)) ≡ []
        by true f true g r = let k : true ≡ false = sym g ∙ comes_alike n y f ∙ h in cc
        by true f false g r = r
        by false f true g r = ap (λ c. cond c (y ∷ filter t (filter (comes n) ys)) (filter t (filter (comes n) ys))) f ∙ r
        by false f false g r = r

    closed : (a b : Bool) → b ≡ true → (a && not b) ≡ false
    closed true true h = refl
    closed false true h = refl
    closed a false h = cc

    opened : (a b : Bool) → a ≡ true → b ≡ false → (a && not b) ≡ true
    opened true false h k = refl
    opened true true h k = cc
    opened false b h k = cc

    kept_open : (a b : Bool) → a ≡ false → (a && not b) ≡ false
    kept_open false b h = refl
    kept_open true b h = cc

    past : (n a : ℕ) → level a ≡ true → filter t (rounds a n) ≡ []
    past zero a h = refl
    past (suc n) a h =
        let next : level (a + 1) ≡ true = ap level (add-one a) ∙ grows a h in
        let one = none_kept a xs (closed (level (suc a)) (level a) h) in
        let rest = past n (a + 1) next in
        filter-append t (round a) (rounds (a + 1) n) ∙ (λ i. one i ++ rest i)

    pub rounds_keep : (n a : ℕ) → level a ≡ false → level (a + n) ≡ true → filter t (rounds a n) ≡ filter t xs
    rounds_keep zero a h g =
        let same : a + zero ≡ a = omega arith in
        let k : true ≡ false = sym g ∙ ap level same ∙ h in cc
    rounds_keep (suc n) a h g = filter-append t (round a) (rounds (a + 1) n) ∙ by (level (suc a)) refl (rounds_keep n (a + 1))
      where
        by : (b : Bool) → level (suc a) ≡ b → (level (a + 1) ≡ false → level (a + 1 + n) ≡ true → filter t (rounds (a + 1) n) ≡ filter t xs)
            → filter t (round a) ++ filter t (rounds (a + 1) n) ≡ filter t xs
        by true e rest =
            let one = all_kept a xs (opened (level (suc a)) (level a) e h) in
            let more = past n (a + 1) (ap level (add-one a) ∙ e) in
            (λ i. one i ++ more i) ∙ append-nil (filter t xs)
        by false e rest =
            let one = none_kept a xs (kept_open (level (suc a)) (level a) e) in
            let same : a + suc n ≡ a + 1 + n = omega arith in
            let more = rest (ap level (add-one a) ∙ e) (subst (λ k. level k ≡ true) same g) in
            λ i. one i ++ more i
