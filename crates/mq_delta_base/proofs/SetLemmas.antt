-- Lists of tuples of places that ascend, as sets.
use Rattle.std.proofs.Common.{◌≡◌, ℕ, ◌<◌, Bool, true, false, cond, List, [], ◌∷◌, ◌++◌, map, Ordering, Less, Equal, Greater, refl, sym, ap, subst, ◌∙◌, ◌⊎◌, inl, inr, ⊎_elim}
use Rattle.std.specs.List.{AllByRecursion, filter}
use Rattle.std.specs.List.Sorted.{IsStrictlySortedBy}
use Rattle.std.specs.Ordering.{nat_cmp, ordering_reverse, match_ordering}
use Rattle.std.specs.Cmp.{IsTotalOrder}
use Rattle.std.specs.Cmp.Lexicographic.{slice_cmp, nat_list_cmp_total}
use Rattle.std.specs.FinMap.{nat_cmp-IsAntisymmetric, slice_cmp-IsAntisymmetric}
use Rattle.mq_delta_base.specs.Sets.{In, cmp_places, union}

pub tied : (x y : List ℕ) → cmp_places x y ≡ Equal → x ≡ y
tied = slice_cmp-IsAntisymmetric nat_cmp-IsAntisymmetric

itself : (x : List ℕ) → cmp_places x x ≡ Less → ⊥
itself x h = let e : cmp_places x x ≡ Greater = nat_list_cmp_total.antisymm x x ∙ ap ordering_reverse h in let c : Less ≡ Greater = sym h ∙ e in cc

abbrev Below : List ℕ → List (List ℕ) → Type 0
Below x = AllByRecursion (λ y. cmp_places x y ≡ Less)

below_in : (x q : List ℕ) (ys : List (List ℕ)) → Below x ys → In q ys → cmp_places x q ≡ Less
below_in x q [] b h = elim h [ ]
below_in x q (y ∷ ys) b (inl e) = subst (λ z. cmp_places x z ≡ Less) (sym e) b.0
below_in x q (y ∷ ys) b (inr h) = below_in x q ys b.1 h

-- two lists that ascend are one where the same tuples are among them
pub one_set : (xs ys : List (List ℕ)) → IsStrictlySortedBy cmp_places xs → IsStrictlySortedBy cmp_places ys
    → ((q : List ℕ) → In q xs → In q ys) → ((q : List ℕ) → In q ys → In q xs) → xs ≡ ys
unfolding IsStrictlySortedBy
one_set [] [] s t f g = refl
one_set [] (y ∷ ys) s t f g = absurd (g y (inl refl))
one_set (x ∷ xs) [] s t f g = absurd (f x (inl refl))
one_set (x ∷ xs) (y ∷ ys) s t f g = by (f x (inl refl)) (g y (inl refl)) (one_set xs ys s.1 t.1)
  where
    same : x ≡ y → (((q : List ℕ) → In q xs → In q ys) → ((q : List ℕ) → In q ys → In q xs) → xs ≡ ys) → x ∷ xs ≡ y ∷ ys
    same e h =
        let there : (q : List ℕ) → In q xs → In q ys = λ q i. rest_of q (f q (inr i)) (below_in x q xs s.0 i) in
        let back : (q : List ℕ) → In q ys → In q xs = λ q i. rest_back q (g q (inr i)) (below_in y q ys t.0 i) in
        let r = h there back in
        λ i. e i ∷ r i
      where
        rest_of : (q : List ℕ) → (q ≡ y) ⊎ In q ys → cmp_places x q ≡ Less → In q ys
        rest_of q (inl p) l = absurd (itself x (subst (λ z. cmp_places x z ≡ Less) (p ∙ sym e) l))
        rest_of q (inr i) l = i

        rest_back : (q : List ℕ) → (q ≡ x) ⊎ In q xs → cmp_places y q ≡ Less → In q xs
        rest_back q (inl p) l = absurd (itself y (subst (λ z. cmp_places y z ≡ Less) (p ∙ e) l))
        rest_back q (inr i) l = i

    by : (x ≡ y) ⊎ In x ys → (y ≡ x) ⊎ In y xs → (((q : List ℕ) → In q xs → In q ys) → ((q : List ℕ) → In q ys → In q xs) → xs ≡ ys) → x ∷ xs ≡ y ∷ ys
    by (inl e) j h = same e h
    by (inr i) (inl e) h = same (sym e) h
    by (inr i) (inr j) h = absurd (itself x (nat_list_cmp_total.trans x y x (below_in x y xs s.0 j) (below_in y x ys t.0 i)))

-- ---- filtered lists
module _ {A : Type 0} (p : A → Bool) where
  pub in_filter : (q : A) (xs : List A) → In q (filter p xs) → (p q ≡ true) × In q xs
  in_filter q [] i = elim i [ ]
  in_filter q (x ∷ xs) i = by (in_filter q xs) (p x) refl i
    where
      by : (In q (filter p xs) → (p q ≡ true) × In q xs) → (b : Bool) → p x ≡ b → In q (cond b (x ∷ filter p xs) (filter p xs)) → (p q ≡ true) × ((q ≡ x) ⊎ In q xs)
      by r true e (inl h) = (ap p h ∙ e, inl h)
      by r true e (inr i) = let k = r i in (k.0, inr k.1)
      by r false e i = let k = r i in (k.0, inr k.1)

  pub filter_in : (q : A) (xs : List A) → p q ≡ true → In q xs → In q (filter p xs)
  filter_in q [] h i = elim i [ ]
  filter_in q (x ∷ xs) h (inl e) = subst (λ b. In q (cond b (x ∷ filter p xs) (filter p xs))) (sym h ∙ ap p e) (inl e)
  filter_in q (x ∷ xs) h (inr i) = by (p x) (filter_in q xs h i)
    where
      by : (b : Bool) → In q (filter p xs) → In q (cond b (x ∷ filter p xs) (filter p xs))
      by true i = inr i
      by false i = i

-- ---- mapped lists
module _ {A B : Type 0} (f : A → B) where
  pub in_map : (q : A) (xs : List A) → In q xs → In (f q) (map f xs)
  in_map q [] i = elim i [ ]
  in_map q (x ∷ xs) (inl e) = inl (ap f e)
  in_map q (x ∷ xs) (inr i) = inr (in_map q xs i)

  pub map_in : (q : B) (xs : List A) → In q (map f xs) → (x : A) × (In x xs) × (q ≡ f x)
  map_in q [] i = elim i [ ]
  map_in q (x ∷ xs) (inl e) = (x, inl refl, e)
  map_in q (x ∷ xs) (inr i) = let r = map_in q xs i in (r.0, inr r.1, r.2)

-- ---- lists that are put one behind the other
module _ {A : Type 0} where
  pub in_first : (q : A) (xs ys : List A) → In q xs → In q (xs ++ ys)
  in_first q [] ys i = elim i [ ]
  in_first q (x ∷ xs) ys (inl e) = inl e
  in_first q (x ∷ xs) ys (inr i) = inr (in_first q xs ys i)

  pub in_second : (q : A) (xs ys : List A) → In q ys → In q (xs ++ ys)
  in_second q [] ys i = i
  in_second q (x ∷ xs) ys i = inr (in_second q xs ys i)

  pub in_either : (q : A) (xs ys : List A) → In q (xs ++ ys) → In q xs ⊎ In q ys
  in_either q [] ys i = inr i
  in_either q (x ∷ xs) ys (inl e) = inl (inl e)
  in_either q (x ∷ xs) ys (inr i) = by (in_either q xs ys i)
    where
      by : In q xs ⊎ In q ys → ((q ≡ x) ⊎ In q xs) ⊎ In q ys
      by (inl i) = inl (inr i)
      by (inr i) = inr i

-- ---- the union of two lists that ascend
by_rank : (P : List (List ℕ) → Type 0) (k : Ordering) (xs ys zs : List (List ℕ)) → (k ≡ Less → P xs) → (k ≡ Equal → P ys) → (k ≡ Greater → P zs) → P (match_ordering k xs ys zs)
by_rank P Less xs ys zs a b c = a refl
by_rank P Equal xs ys zs a b c = b refl
by_rank P Greater xs ys zs a b c = c refl

module _ (q : List ℕ) where
  abbrev Comes : List (List ℕ) → List (List ℕ) → List (List ℕ) → Type 0
  Comes xs ys zs = In q zs → In q xs ⊎ In q ys

  step_comes : (x : List ℕ) (xs : List (List ℕ)) → ((ys : List (List ℕ)) → Comes xs ys (union xs ys)) → (ys : List (List ℕ)) → Comes (x ∷ xs) ys (union (x ∷ xs) ys)
  step_comes x xs h [] = λ i. inl i
  step_comes x xs h (y ∷ ys) = by_rank (Comes (x ∷ xs) (y ∷ ys)) (cmp_places x y) _ _ _ (λ k. less (h (y ∷ ys))) (λ k. equal (h ys)) (λ k. greater (step_comes x xs h ys))
    where
      less : Comes xs (y ∷ ys) (union xs (y ∷ ys)) → Comes (x ∷ xs) (y ∷ ys) (x ∷ union xs (y ∷ ys))
      less r (inl e) = inl (inl e)
      less r (inr i) = ⊎_elim (λ k. inl (inr k)) (λ k. inr k) (r i)

      equal : Comes xs ys (union xs ys) → Comes (x ∷ xs) (y ∷ ys) (x ∷ union xs ys)
      equal r (inl e) = inl (inl e)
      equal r (inr i) = ⊎_elim (λ k. inl (inr k)) (λ k. inr (inr k)) (r i)

      greater : Comes (x ∷ xs) ys (union (x ∷ xs) ys) → Comes (x ∷ xs) (y ∷ ys) (y ∷ union (x ∷ xs) ys)
      greater r (inl e) = inr (inl e)
      greater r (inr i) = ⊎_elim (λ k. inl k) (λ k. inr (inr k)) (r i)

  pub in_union : (xs ys : List (List ℕ)) → In q (union xs ys) → In q xs ⊎ In q ys
  in_union [] ys = λ i. inr i
  in_union (x ∷ xs) ys = step_comes x xs (in_union xs) ys

  abbrev Stays : List (List ℕ) → List (List ℕ) → List (List ℕ) → Type 0
  Stays xs ys zs = In q xs ⊎ In q ys → In q zs

  step_stays : (x : List ℕ) (xs : List (List ℕ)) → ((ys : List (List ℕ)) → Stays xs ys (union xs ys)) → (ys : List (List ℕ)) → Stays (x ∷ xs) ys (union (x ∷ xs) ys)
  step_stays x xs h [] = ⊎_elim (λ i. i) (λ i. elim i [ ])
  step_stays x xs h (y ∷ ys) = by_rank (Stays (x ∷ xs) (y ∷ ys)) (cmp_places x y) _ _ _ (λ k. less (h (y ∷ ys))) (λ k. equal (tied x y k) (h ys)) (λ k. greater (step_stays x xs h ys))
    where
      less : Stays xs (y ∷ ys) (union xs (y ∷ ys)) → Stays (x ∷ xs) (y ∷ ys) (x ∷ union xs (y ∷ ys))
      less r (inl (inl e)) = inl e
      less r (inl (inr i)) = inr (r (inl i))
      less r (inr i) = inr (r (inr i))

      equal : x ≡ y → Stays xs ys (union xs ys) → Stays (x ∷ xs) (y ∷ ys) (x ∷ union xs ys)
      equal p r (inl (inl e)) = inl e
      equal p r (inl (inr i)) = inr (r (inl i))
      equal p r (inr (inl e)) = inl (e ∙ sym p)
      equal p r (inr (inr i)) = inr (r (inr i))

      greater : Stays (x ∷ xs) ys (union (x ∷ xs) ys) → Stays (x ∷ xs) (y ∷ ys) (y ∷ union (x ∷ xs) ys)
      greater r (inl i) = inr (r (inl i))
      greater r (inr (inl e)) = inl e
      greater r (inr (inr i)) = inr (r (inr i))

  pub union_in : (xs ys : List (List ℕ)) → In q xs ⊎ In q ys → In q (union xs ys)
  union_in [] ys = ⊎_elim (λ i. elim i [ ]) (λ i. i)
  union_in (x ∷ xs) ys = step_stays x xs (union_in xs) ys

below_each : (x : List ℕ) (ys : List (List ℕ)) → ((q : List ℕ) → In q ys → cmp_places x q ≡ Less) → Below x ys
below_each x [] h = tt
below_each x (y ∷ ys) h = (h y (inl refl), below_each x ys (λ q i. h q (inr i)))

below_union : (z : List ℕ) (xs ys : List (List ℕ)) → Below z xs → Below z ys → Below z (union xs ys)
below_union z xs ys a b = below_each z (union xs ys) (λ q i. ⊎_elim (below_in z q xs a) (below_in z q ys b) (in_union q xs ys i))

below_through : (x y : List ℕ) (zs : List (List ℕ)) → cmp_places x y ≡ Less → Below y zs → Below x zs
below_through x y zs h b = below_each x zs (λ q i. nat_list_cmp_total.trans x y q h (below_in y q zs b i))

abbrev Strict : List (List ℕ) → Type 0
Strict = IsStrictlySortedBy cmp_places

step_strict : (x : List ℕ) (xs : List (List ℕ)) → Below x xs → Strict xs → ((ys : List (List ℕ)) → Strict ys → Strict (union xs ys)) → (ys : List (List ℕ)) → Strict ys → Strict (union (x ∷ xs) ys)
unfolding IsStrictlySortedBy
step_strict x xs b s h [] t = (b, s)
step_strict x xs b s h (y ∷ ys) t = by_rank Strict (cmp_places x y) _ _ _
    (λ k. (below_union x xs (y ∷ ys) b (k, below_through x y ys k t.0), h (y ∷ ys) t))
    (λ k. (below_union x xs ys b (subst (λ z. Below z ys) (sym (tied x y k)) t.0), h ys t.1))
    (λ k. let l : cmp_places y x ≡ Less = nat_list_cmp_total.antisymm y x ∙ ap ordering_reverse k in (below_union y (x ∷ xs) ys (l, below_through y x xs l b) t.0, step_strict x xs b s h ys t.1))

pub strict_union : (xs ys : List (List ℕ)) → Strict xs → Strict ys → Strict (union xs ys)
unfolding IsStrictlySortedBy
strict_union [] ys s t = t
strict_union (x ∷ xs) ys s t = step_strict x xs s.0 s.1 (λ zs. strict_union xs zs s.1) ys t

-- ---- a list that is mapped by what keeps its order
pub strict_map : (f : List ℕ → List ℕ) (xs : List (List ℕ)) → ((x y : List ℕ) → In x xs → In y xs → cmp_places x y ≡ Less → cmp_places (f x) (f y) ≡ Less) → Strict xs → Strict (map f xs)
unfolding IsStrictlySortedBy
strict_map f [] h s = tt
strict_map f (x ∷ xs) h s = (
  below_each (f x) (map f xs) (λ q i. let r = map_in f q xs i in subst (λ z. cmp_places (f x) z ≡ Less) (sym r.2) (h x r.0 (inl refl) (inr r.1) (below_in x r.0 xs s.0 r.1))),
  strict_map f xs (λ a b i j. h a b (inr i) (inr j)) s.1,
)

pub strict_append : (xs ys : List (List ℕ)) → Strict xs → Strict ys → ((x y : List ℕ) → In x xs → In y ys → cmp_places x y ≡ Less) → Strict (xs ++ ys)
unfolding IsStrictlySortedBy
strict_append [] ys s t h = t
strict_append (x ∷ xs) ys s t h = (
  below_each x (xs ++ ys) (λ q i. ⊎_elim (below_in x q xs s.0) (h x q (inl refl)) (in_either q xs ys i)),
  strict_append xs ys s.1 t (λ a b i j. h a b (inr i) j),
)
