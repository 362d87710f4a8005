-- All tuples of places: which there are, and that they ascend.
use Rattle.std.proofs.Common.{◌≡◌, ℕ, zero, suc, ◌+◌, ◌<◌, ◌≤◌, Bool, true, false, List, [], ◌∷◌, ◌++◌, map, length, Ordering, Less, Equal, Greater, refl, sym, ap, subst, ◌∙◌, ◌⊎◌, inl, inr, ⊎_elim, arith}
use Rattle.std.specs.List.{flat_map, range_with_len}
use Rattle.std.specs.List.Sorted.{IsStrictlySortedBy}
use Rattle.std.specs.Ordering.{nat_cmp, ordering_then}
use Rattle.std.specs.Cmp.{nat_cmp_is}
use Rattle.mq_ir.specs.BaseRows.{Places, all_places}
use Rattle.mq_ir.specs.Combinations.{combinations}
use Rattle.mq_delta_base.specs.Sets.{In, cmp_places}
use Rattle.mq_delta_base.specs.Verdicts.{Within}
use Rattle.mq_delta_base.proofs.SetLemmas.{in_first, in_second, in_either, in_map, map_in, strict_append, strict_map}

-- ---- numbers from one on
equal_or_more : (q a : ℕ) → a ≤ q → (q ≡ a) ⊎ (a + 1 ≤ q)
equal_or_more zero zero h = inl refl
equal_or_more zero (suc a) h = absurd (omega (arith, h))
equal_or_more (suc q) zero h = inr (omega arith)
equal_or_more (suc q) (suc a) h = ⊎_elim (λ e. inl (ap suc e)) (λ l. inr (omega (arith, l))) (equal_or_more q a (omega (arith, h)))

pub in_range : (q a n : ℕ) → In q (range_with_len a n) → (a ≤ q) × (q < a + n)
in_range q a zero i = elim i [ ]
in_range q a (suc n) (inl e) = (omega (arith, e), omega (arith, e))
in_range q a (suc n) (inr i) = let r = in_range q (a + 1) n i in (omega (arith, r.0), omega (arith, r.1))

pub range_in : (q a n : ℕ) → a ≤ q → q < a + n → In q (range_with_len a n)
range_in q a zero h k = absurd (omega (arith, h, k))
range_in q a (suc n) h k = by (equal_or_more q a h) (λ l. range_in q (a + 1) n l (omega (arith, k)))
  where
    by : (q ≡ a) ⊎ (a + 1 ≤ q) → (a + 1 ≤ q → In q (range_with_len (a + 1) n)) → In q (range_with_len a (suc n))
    by (inl e) f = inl e
    by (inr l) f = inr (f l)

-- ---- tuples whose first place is one of these
abbrev behind : List Places → ℕ → List Places
behind rests x = map (λ rest. x ∷ rest) rests

abbrev Split : List ℕ → List Places → Places → Type 0
Split xs rests [] = ⊥
Split xs rests (p ∷ ps) = In p xs × In ps rests

split_behind : (x : ℕ) (rests : List Places) (q : Places) (xs : List ℕ) → In q (behind rests x) → Split (x ∷ xs) rests q
split_behind x rests q xs i = let r = map_in (λ rest. x ∷ rest) q rests i in subst (Split (x ∷ xs) rests) (sym r.2) (inl refl, r.1)

pub in_split : (rests : List Places) (xs : List ℕ) (q : Places) → In q (flat_map (behind rests) xs) → Split xs rests q
in_split rests [] q i = elim i [ ]
in_split rests (x ∷ xs) q i = ⊎_elim (split_behind x rests q xs) (λ j. more q (in_split rests xs q j)) (in_either q (behind rests x) (flat_map (behind rests) xs) i)
  where
    more : (q : Places) → Split xs rests q → Split (x ∷ xs) rests q
    more [] s = s
    more (p ∷ ps) s = (inr s.0, s.1)

pub split_in : (rests : List Places) (xs : List ℕ) (p : ℕ) (ps : Places) → In p xs → In ps rests → In (p ∷ ps) (flat_map (behind rests) xs)
split_in rests [] p ps i j = elim i [ ]
split_in rests (x ∷ xs) p ps (inl e) j = in_first (p ∷ ps) (behind rests x) (flat_map (behind rests) xs) (subst (λ z. In (z ∷ ps) (behind rests x)) (sym e) (in_map (λ rest. x ∷ rest) ps rests j))
split_in rests (x ∷ xs) p ps (inr i) j = in_second (p ∷ ps) (behind rests x) (flat_map (behind rests) xs) (split_in rests xs p ps i j)

pub in_all : (counts : List ℕ) (q : Places) → In q (all_places counts) → Within counts q
in_all [] [] i = tt
in_all [] (p ∷ ps) (inl e) = absurd (cc)
in_all [] (p ∷ ps) (inr i) = i
in_all (n ∷ counts) [] i = in_split (all_places counts) (range_with_len 0 n) [] i
in_all (n ∷ counts) (p ∷ ps) i =
    let s = in_split (all_places counts) (range_with_len 0 n) (p ∷ ps) i in
    let r = in_range p 0 n s.0 in (omega (arith, r.1), in_all counts ps s.1)

pub all_in : (counts : List ℕ) (q : Places) → Within counts q → In q (all_places counts)
all_in [] [] w = inl refl
all_in [] (p ∷ ps) w = elim w [ ]
all_in (n ∷ counts) [] w = elim w [ ]
all_in (n ∷ counts) (p ∷ ps) w = split_in (all_places counts) (range_with_len 0 n) p ps (range_in p 0 n (omega arith) (omega (arith, w.0))) (all_in counts ps w.1)

-- ---- in order
pub less_first : (p q : ℕ) (ps qs : Places) → p < q → cmp_places (p ∷ ps) (q ∷ qs) ≡ Less
less_first p q ps qs l = ap (λ o. ordering_then o (cmp_places ps qs)) (sym (nat_cmp_is p q Less l))

pub less_rest : (p : ℕ) (ps qs : Places) → cmp_places ps qs ≡ Less → cmp_places (p ∷ ps) (p ∷ qs) ≡ Less
less_rest p ps qs l = ap (λ o. ordering_then o (cmp_places ps qs)) (sym (nat_cmp_is p p Equal refl)) ∙ l

strict_behind : (rests : List Places) → IsStrictlySortedBy cmp_places rests → (a n : ℕ) → IsStrictlySortedBy cmp_places (flat_map (behind rests) (range_with_len a n))
unfolding IsStrictlySortedBy
strict_behind rests s a zero = tt
strict_behind rests s a (suc n) =
    strict_append (behind rests a) (flat_map (behind rests) (range_with_len (a + 1) n)) (strict_map (λ rest. a ∷ rest) rests (λ x y i j l. less_rest a x y l) s) (strict_behind rests s (a + 1) n) apart
  where
    less : (x : Places) (y : Places) → In x (behind rests a) → Split (range_with_len (a + 1) n) rests y → cmp_places x y ≡ Less
    less x [] i j = elim j [ ]
    less x (q ∷ qs) i j =
        let r = map_in (λ rest. a ∷ rest) x rests i in
        let b = in_range q (a + 1) n j.0 in
        ap (λ z. cmp_places z (q ∷ qs)) r.2 ∙ less_first a q r.0 qs (omega (arith, b.0))

    apart : (x y : Places) → In x (behind rests a) → In y (flat_map (behind rests) (range_with_len (a + 1) n)) → cmp_places x y ≡ Less
    apart x y i j = less x y i (in_split rests (range_with_len (a + 1) n) y j)

pub strict_all : (counts : List ℕ) → IsStrictlySortedBy cmp_places (all_places counts)
unfolding IsStrictlySortedBy
strict_all [] = (tt, tt)
strict_all (n ∷ counts) = strict_behind (all_places counts) (strict_all counts) 0 n
