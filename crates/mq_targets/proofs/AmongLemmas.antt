-- Which keys are among the keys of a list, and lists in strict order.
use Rattle.std.proofs.Common.{◌≡◌, List, [], ◌∷◌, Bool, true, false, not, ◌||◌, cond, Ordering, Less, Equal, Greater, refl, sym, ap, ◌∙◌}
use Rattle.std.specs.Prelude.{if◌then◌else◌}
use Rattle.std.specs.Cmp.{IsTotalOrder, tied_itself}
use Rattle.std.specs.List.{AllByRecursion, dedup, dedup_from, filter}
use Rattle.std.specs.List.Sorted.{IsStrictlySortedBy}
use Rattle.std.specs.Ordering.{is_eq, is_gt, ordering_reverse}
use Rattle.mq_values.specs.Order.{cmp_key}
use Rattle.mq_values.specs.OrderTells.{key_itself, same_key}
use Rattle.mq_ir.specs.Keys.{Tuple, each_first, is_among, is_same}
use Rattle.mq_ir.specs.Partitions.{ascending, placed}

equal_is : (r : Ordering) → is_eq r ≡ true → r ≡ Equal
equal_is Less h = cc
equal_is Equal h = refl
equal_is Greater h = cc

pub same_is : (a b : Tuple) → is_same a b ≡ true → a ≡ b
same_is a b h = same_key a b (equal_is (cmp_key a b) h)

pub same_itself : (a : Tuple) → is_same a a ≡ true
same_itself a = ap is_eq (key_itself a)

-- which of two is asked for makes no difference
other_way : (a b : Tuple) → is_same a b ≡ false → is_same b a ≡ false
other_way a b h = by (is_same b a) refl
  where
    by : (s : Bool) → is_same b a ≡ s → s ≡ false
    by true e = let g : is_same a b ≡ true = ap (is_same a) (same_is b a e) ∙ same_itself a in cc
    by false e = refl

among_later : (q x : Tuple) (xs : List Tuple) → is_same q x ≡ false → is_among (x ∷ xs) q ≡ is_among xs q
among_later q x xs h = ap (λ b. b || is_among xs q) h

among_first_of : (q x : Tuple) (xs : List Tuple) → is_same q x ≡ true → is_among (x ∷ xs) q ≡ true
among_first_of q x xs h = ap (λ b. b || is_among xs q) h

-- two tests one after the other
either_way : (a b c : Bool) → a || (b || c) ≡ b || (a || c)
either_way true true c = refl
either_way true false c = refl
either_way false true c = refl
either_way false false c = refl

pub among_placed : (R : Tuple → Tuple → Ordering) (q x : Tuple) (ys : List Tuple) → is_among (placed R x ys) q ≡ is_among (x ∷ ys) q
among_placed R q x [] = refl
among_placed R q x (y ∷ ys) = by (is_gt (R x y)) (among_placed R q x ys)
  where
    by : (g : Bool) → is_among (placed R x ys) q ≡ is_among (x ∷ ys) q → is_among (if g then y ∷ placed R x ys else x ∷ y ∷ ys) q ≡ is_among (x ∷ y ∷ ys) q
    by true rest = ap (λ b. is_same q y || b) rest ∙ either_way (is_same q y) (is_same q x) (is_among ys q)
    by false rest = refl

pub among_ascending : (R : Tuple → Tuple → Ordering) (q : Tuple) (xs : List Tuple) → is_among (ascending R xs) q ≡ is_among xs q
among_ascending R q [] = refl
among_ascending R q (x ∷ xs) = among_placed R q x (ascending R xs) ∙ ap (λ b. is_same q x || b) (among_ascending R q xs)

-- a key that passes stays among what is filtered, and one that does not is lost
among_kept : (p : Tuple → Bool) (q : Tuple) (xs : List Tuple) → p q ≡ true → is_among (filter p xs) q ≡ is_among xs q
among_kept p q [] h = refl
among_kept p q (x ∷ xs) h = by (p x) refl (is_same q x) refl (among_kept p q xs h)
  where
    by : (b : Bool) → p x ≡ b → (s : Bool) → is_same q x ≡ s → is_among (filter p xs) q ≡ is_among xs q → is_among (cond b (x ∷ filter p xs) (filter p xs)) q ≡ is_among (x ∷ xs) q
    by true e s f rest = ap (λ b. is_same q x || b) rest
    by false e true f rest = let g : p q ≡ p x = ap p (same_is q x f) in cc
    by false e false f rest = rest ∙ sym (among_later q x xs f)

among_lost : (p : Tuple → Bool) (q : Tuple) (xs : List Tuple) → p q ≡ false → is_among (filter p xs) q ≡ false
among_lost p q [] h = refl
among_lost p q (x ∷ xs) h = by (p x) refl (is_same q x) refl (among_lost p q xs h)
  where
    by : (b : Bool) → p x ≡ b → (s : Bool) → is_same q x ≡ s → is_among (filter p xs) q ≡ false → is_among (cond b (x ∷ filter p xs) (filter p xs)) q ≡ false
    by true e true f rest = let g : p q ≡ p x = ap p (same_is q x f) in cc
    by true e false f rest = among_later q x (filter p xs) f ∙ rest
    by false e s f rest = rest

among_none : (p : Tuple → Bool) (q : Tuple) (xs : List Tuple) → is_among xs q ≡ false → is_among (filter p xs) q ≡ false
among_none p q xs h = by (p q) refl
  where
    by : (b : Bool) → p q ≡ b → is_among (filter p xs) q ≡ false
    by true e = among_kept p q xs e ∙ h
    by false e = among_lost p q xs e

pub among_first : (q : Tuple) (xs : List Tuple) → is_among (each_first xs) q ≡ is_among xs q
among_first q [] = refl
among_first q (x ∷ xs) = by (is_same q x) refl (among_first q xs)
  where
    rest : List Tuple
    rest = filter (λ k. not (is_same x k)) (each_first xs)

    by : (s : Bool) → is_same q x ≡ s → is_among (each_first xs) q ≡ is_among xs q → is_among (x ∷ rest) q ≡ is_among (x ∷ xs) q
    by true e h = among_first_of q x rest e ∙ sym (among_first_of q x xs e)
    by false e h =
        among_later q x rest e ∙ among_kept (λ k. not (is_same x k)) q (each_first xs) (ap not (other_way q x e)) ∙ h ∙ sym (among_later q x xs e)

-- what dedup leaves, where what it takes for the same is the same
pub among_dedup : (E : Tuple → Tuple → Bool) → ((a b : Tuple) → E a b ≡ true → a ≡ b) → (q : Tuple) (xs : List Tuple) → is_among (dedup E xs) q ≡ is_among xs q
among_dedup E alike q [] = refl
among_dedup E alike q (x ∷ xs) = from x xs
  where
    twice : (s t : Bool) → s || t ≡ s || (s || t)
    twice true t = refl
    twice false t = refl

    from : (x : Tuple) (xs : List Tuple) → is_among (dedup_from E x xs) q ≡ is_among (x ∷ xs) q
    from x [] = refl
    from x (y ∷ ys) = by (E y x) refl (from x ys) (from y ys)
      where
        by : (b : Bool) → E y x ≡ b → is_among (dedup_from E x ys) q ≡ is_among (x ∷ ys) q → is_among (dedup_from E y ys) q ≡ is_among (y ∷ ys) q →
            is_among (cond b (dedup_from E x ys) (x ∷ dedup_from E y ys)) q ≡ is_among (x ∷ y ∷ ys) q
        by true e f g = f ∙ twice (is_same q x) (is_among ys q) ∙ ap (λ k. is_same q x || (is_same q k || is_among ys q)) (sym (alike y x e))
        by false e f g = ap (λ b. is_same q x || b) g

-- no key stands in the rest behind it
abbrev Distinct : List Tuple → Type 0
Distinct [] = Unit {0}
Distinct (x ∷ xs) = (is_among xs x ≡ false) × Distinct xs

distinct_filter : (p : Tuple → Bool) (xs : List Tuple) → Distinct xs → Distinct (filter p xs)
distinct_filter p [] d = tt
distinct_filter p (x ∷ xs) d = by (p x) (distinct_filter p xs d.1)
  where
    by : (b : Bool) → Distinct (filter p xs) → Distinct (cond b (x ∷ filter p xs) (filter p xs))
    by true rest = (among_none p x xs d.0, rest)
    by false rest = rest

pub distinct_first : (xs : List Tuple) → Distinct (each_first xs)
distinct_first [] = tt
distinct_first (x ∷ xs) =
    (among_lost (λ k. not (is_same x k)) x (each_first xs) (ap not (same_itself x)), distinct_filter (λ k. not (is_same x k)) (each_first xs) (distinct_first xs))

-- lists in strict order by a total order that tells keys apart
module _ {R : Tuple → Tuple → Ordering} (o : IsTotalOrder R) (apart : (a b : Tuple) → R a b ≡ Equal → a ≡ b) where
  pub differs : (a b : Tuple) → R a b ≡ Less → is_same a b ≡ false
  differs a b h = by (is_same a b) refl
    where
      by : (s : Bool) → is_same a b ≡ s → s ≡ false
      by true e = let g : R a b ≡ Equal = sym (ap (R a) (same_is a b e)) ∙ tied_itself o a in cc
      by false e = refl

  -- x comes before each of these
  abbrev Below : Tuple → List Tuple → Type 0
  Below x = AllByRecursion (λ y. R x y ≡ Less)

  below_none : (x : Tuple) (ys : List Tuple) → Below x ys → is_among ys x ≡ false
  below_none x [] b = refl
  below_none x (y ∷ ys) b = among_later x y ys (differs x y b.0) ∙ below_none x ys b.1

  below_through : (x y : Tuple) (zs : List Tuple) → R x y ≡ Less → Below y zs → Below x zs
  below_through x y [] h b = tt
  below_through x y (z ∷ zs) h b = (o.trans x y z h b.0, below_through x y zs h b.1)

  below_placed : (y x : Tuple) (zs : List Tuple) → R y x ≡ Less → Below y zs → Below y (placed R x zs)
  below_placed y x [] h b = (h, tt)
  below_placed y x (z ∷ zs) h b = by (is_gt (R x z)) (below_placed y x zs h b.1)
    where
      by : (g : Bool) → Below y (placed R x zs) → Below y (if g then z ∷ placed R x zs else x ∷ z ∷ zs)
      by true rest = (b.0, rest)
      by false rest = (h, b)

  strict_placed : (x : Tuple) (ys : List Tuple) → is_among ys x ≡ false → IsStrictlySortedBy R ys → IsStrictlySortedBy R (placed R x ys)
  unfolding IsStrictlySortedBy
  strict_placed x [] h s = (tt, tt)
  strict_placed x (y ∷ ys) h s = by (R x y) refl (strict_placed x ys)
    where
      not_first : (t : Bool) → is_same x y ≡ t → t ≡ false
      not_first true e = let g : is_among (y ∷ ys) x ≡ true = among_first_of x y ys e in cc
      not_first false e = refl

      later : is_among ys x ≡ false
      later = sym (among_later x y ys (not_first (is_same x y) refl)) ∙ h

      by : (t : Ordering) → R x y ≡ t → (is_among ys x ≡ false → IsStrictlySortedBy R ys → IsStrictlySortedBy R (placed R x ys)) →
          IsStrictlySortedBy R (if is_gt t then y ∷ placed R x ys else x ∷ y ∷ ys)
      by Less e rest = ((e, below_through x y ys e s.0), s)
      by Equal e rest = let g : is_same x y ≡ true = sym (ap (is_same x) (apart x y e)) ∙ same_itself x in let f = not_first (is_same x y) refl in cc
      by Greater e rest = (below_placed y x ys (o.antisymm y x ∙ ap ordering_reverse e) s.0, rest later s.1)

  pub strict_ascending : (xs : List Tuple) → Distinct xs → IsStrictlySortedBy R (ascending R xs)
  unfolding IsStrictlySortedBy
  strict_ascending [] d = tt
  strict_ascending (x ∷ xs) d = strict_placed x (ascending R xs) (among_ascending R x xs ∙ d.0) (strict_ascending xs d.1)

  -- two lists in strict order with the same keys are one
  pub one_list : (xs ys : List Tuple) → IsStrictlySortedBy R xs → IsStrictlySortedBy R ys → ((q : Tuple) → is_among xs q ≡ is_among ys q) → xs ≡ ys
  unfolding IsStrictlySortedBy
  one_list [] [] s t h = refl
  one_list [] (y ∷ ys) s t h = let g : is_among (y ∷ ys) y ≡ true = among_first_of y y ys (same_itself y) in let e : false ≡ true = h y ∙ g in cc
  one_list (x ∷ xs) [] s t h = let g : is_among (x ∷ xs) x ≡ true = among_first_of x x xs (same_itself x) in let e : true ≡ false = sym g ∙ h x in cc
  one_list (x ∷ xs) (y ∷ ys) s t h = by (R x y) refl (one_list xs ys s.1 t.1)
    where
      missing : (x y : Tuple) (xs ys : List Tuple) → R x y ≡ Less → Below y ys → is_among (x ∷ xs) x ≡ is_among (y ∷ ys) x → true ≡ false
      missing x y xs ys e b same =
          sym (among_first_of x x xs (same_itself x)) ∙ same ∙ among_later x y ys (differs x y e) ∙ below_none x ys (below_through x y ys e b)

      rest_alike : x ≡ y → (q : Tuple) → is_among xs q ≡ is_among ys q
      rest_alike e q = alike (is_same q x) refl
        where
          alike : (b : Bool) → is_same q x ≡ b → is_among xs q ≡ is_among ys q
          alike true f =
              ap (is_among xs) (same_is q x f) ∙ below_none x xs s.0 ∙ sym (ap (is_among ys) (same_is q x f ∙ e) ∙ below_none y ys t.0)
          alike false f = sym (among_later q x xs f) ∙ h q ∙ among_later q y ys (sym (ap (is_same q) e) ∙ f)

      by : (r : Ordering) → R x y ≡ r → (((q : Tuple) → is_among xs q ≡ is_among ys q) → xs ≡ ys) → x ∷ xs ≡ y ∷ ys
      by Less e f = let g = missing x y xs ys e t.0 (h x) in cc
      by Greater e f = let g = missing y x ys xs (o.antisymm y x ∙ ap ordering_reverse e) s.0 (sym (h y)) in cc
      by Equal e f = let p = apart x y e in let rest = f (rest_alike p) in λ i. p i ∷ rest i

  -- what is in strict order is its own ascending list, and has each key once
  pub ascending_itself : (xs : List Tuple) → IsStrictlySortedBy R xs → ascending R xs ≡ xs
  unfolding IsStrictlySortedBy
  ascending_itself [] s = refl
  ascending_itself (x ∷ xs) s = ap (placed R x) (ascending_itself xs s.1) ∙ front xs s.0
    where
      front : (ys : List Tuple) → Below x ys → placed R x ys ≡ x ∷ ys
      front [] b = refl
      front (y ∷ ys) b = ap (λ r. if is_gt r then y ∷ placed R x ys else x ∷ y ∷ ys) b.0

  pub first_itself : (xs : List Tuple) → IsStrictlySortedBy R xs → each_first xs ≡ xs
  unfolding IsStrictlySortedBy
  first_itself [] s = refl
  first_itself (x ∷ xs) s = ap (λ ys. x ∷ filter (λ k. not (is_same x k)) ys) (first_itself xs s.1) ∙ ap (λ ys. x ∷ ys) (all_kept xs s.0)
    where
      all_kept : (ys : List Tuple) → Below x ys → filter (λ k. not (is_same x k)) ys ≡ ys
      all_kept [] b = refl
      all_kept (y ∷ ys) b =
          ap (λ s. cond (not s) (y ∷ filter (λ k. not (is_same x k)) ys) (filter (λ k. not (is_same x k)) ys)) (differs x y b.0)
          ∙ ap (λ zs. y ∷ zs) (all_kept ys b.1)

  -- of a key, what stands in the list
  pub only_it : (q : Tuple) (xs : List Tuple) → IsStrictlySortedBy R xs → filter (is_same q) xs ≡ (if is_among xs q then q ∷ [] else [])
  unfolding IsStrictlySortedBy
  only_it q [] s = refl
  only_it q (x ∷ xs) s = by (is_same q x) refl (only_it q xs s.1)
    where
      by : (b : Bool) → is_same q x ≡ b → filter (is_same q) xs ≡ (if is_among xs q then q ∷ [] else []) →
          cond b (x ∷ filter (is_same q) xs) (filter (is_same q) xs) ≡ (if b || is_among xs q then q ∷ [] else [])
      by true e rest =
          let p = same_is q x e in
          let none : is_among xs q ≡ false = ap (is_among xs) p ∙ below_none x xs s.0 in
          let empty : filter (is_same q) xs ≡ [] = rest ∙ ap (λ b. if b then q ∷ [] else []) none in
          λ i. sym p i ∷ empty i
      by false e rest = rest
