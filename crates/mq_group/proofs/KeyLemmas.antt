-- Distinct keys one after another, and one key more.
use Rattle.std.proofs.Common.{◌≡◌, ℕ, zero, suc, ◌+◌, List, [], ◌∷◌, ◌++◌, Bool, true, false, not, ◌||◌, cond, length, map, get_or, Ordering, Less, Equal, Greater, Option, Some, None, refl, sym, ap, ◌∙◌, arith}
use Rattle.std.specs.Prelude.{if◌then◌else◌, slice_get}
use Rattle.std.specs.List.{enumerate_from, filter, range_with_len}
use Rattle.std.specs.Option.{option_map}
use Rattle.std.specs.Ordering.{is_eq}
use Rattle.mq_values.specs.Order.{cmp_key}
use Rattle.mq_values.specs.OrderTells.{key_itself, same_key}
use Rattle.mq_ir.specs.Keys.{Tuple, each_first, is_among, is_same}
use Rattle.mq_group.specs.Numbering.{place_in, places_from}

equal_is : (r : Ordering) → is_eq r ≡ true → r ≡ Equal
equal_is Less h = cc
equal_is Equal h = refl
equal_is Greater h = cc

pub same_is : (a b : Tuple) → is_same a b ≡ true → a ≡ b
same_is a b h = same_key a b (equal_is (cmp_key a b) h)

pub same_itself : (a : Tuple) → is_same a a ≡ true
same_itself a = ap is_eq (key_itself a)

pub other_way : (a b : Tuple) → is_same a b ≡ false → is_same b a ≡ false
other_way a b h = by (is_same b a) refl
  where
    by : (s : Bool) → is_same b a ≡ s → s ≡ false
    by true e = let g : is_same a b ≡ true = ap (is_same a) (same_is b a e) ∙ same_itself a in cc
    by false e = refl

pub same_turned : (a b : Tuple) → is_same a b ≡ true → is_same b a ≡ true
same_turned a b h = ap (is_same b) (same_is a b h) ∙ same_itself b

-- ---- a key that is or is not among some
among_kept : (p : Tuple → Bool) (q : Tuple) (xs : List Tuple) → p q ≡ true → is_among (filter p xs) q ≡ is_among xs q
among_kept p q [] h = refl
among_kept p q (x ∷ xs) h = by (p x) refl (is_same q x) refl (among_kept p q xs h)
  where
    by : (b : Bool) → p x ≡ b → (s : Bool) → is_same q x ≡ s → is_among (filter p xs) q ≡ is_among xs q → is_among (cond b (x ∷ filter p xs) (filter p xs)) q ≡ is_among (x ∷ xs) q
    by true e s f rest = ap (λ b. is_same q x || b) rest
    by false e true f rest = let g : p q ≡ p x = ap p (same_is q x f) in cc
    by false e false f rest = rest ∙ sym (ap (λ b. b || is_among xs q) f)

pub among_first : (q : Tuple) (xs : List Tuple) → is_among (each_first xs) q ≡ is_among xs q
among_first q [] = refl
among_first q (x ∷ xs) = by (is_same q x) refl (among_first q xs)
  where
    rest : List Tuple
    rest = filter (λ k. not (is_same x k)) (each_first xs)

    by : (s : Bool) → is_same q x ≡ s → is_among (each_first xs) q ≡ is_among xs q → s || is_among rest q ≡ s || is_among xs q
    by true e h = refl
    by false e h = among_kept (λ k. not (is_same x k)) q (each_first xs) (ap not (other_way q x e)) ∙ h

-- one key more at the end
pushed_filter : (p : Tuple → Bool) (k : Tuple) (xs : List Tuple) → filter p (xs ++ k ∷ []) ≡ filter p xs ++ cond (p k) (k ∷ []) []
pushed_filter p k [] = refl
pushed_filter p k (x ∷ xs) = by (p x) (pushed_filter p k xs)
  where
    by : (b : Bool) → filter p (xs ++ k ∷ []) ≡ filter p xs ++ cond (p k) (k ∷ []) [] → cond b (x ∷ filter p (xs ++ k ∷ [])) (filter p (xs ++ k ∷ [])) ≡ cond b (x ∷ filter p xs) (filter p xs) ++ cond (p k) (k ∷ []) []
    by true h = ap (λ l. x ∷ l) h
    by false h = h

pub pushed_first : (k : Tuple) (xs : List Tuple) → each_first (xs ++ k ∷ []) ≡ each_first xs ++ cond (is_among xs k) [] (k ∷ [])
pushed_first k [] = refl
pushed_first k (x ∷ xs) =
    ap (λ l. x ∷ filter others l) (pushed_first k xs)
    ∙ ap (λ l. x ∷ l) (by (is_among xs k) (is_same x k) refl)
    ∙ ap (λ b. (x ∷ filter others (each_first xs)) ++ cond (b || is_among xs k) [] (k ∷ [])) (turned (is_same x k) refl)
  where
    others : Tuple → Bool
    others y = not (is_same x y)

    turned : (b : Bool) → is_same x k ≡ b → b ≡ is_same k x
    turned true e = sym (ap (λ y. is_same k y) (same_is x k e) ∙ same_itself k)
    turned false e = sym (other_way x k e)

    nothing_more : (ys : List Tuple) → filter others (ys ++ []) ≡ filter others ys ++ []
    nothing_more [] = refl
    nothing_more (y ∷ ys) = pick (others y) (nothing_more ys)
      where
        pick : (b : Bool) → filter others (ys ++ []) ≡ filter others ys ++ [] → cond b (y ∷ filter others (ys ++ [])) (filter others (ys ++ [])) ≡ cond b (y ∷ filter others ys) (filter others ys) ++ []
        pick true h = ap (λ l. y ∷ l) h
        pick false h = h

    by : (a b : Bool) → is_same x k ≡ b → filter others (each_first xs ++ cond a [] (k ∷ [])) ≡ filter others (each_first xs) ++ cond (b || a) [] (k ∷ [])
    by true true e = nothing_more (each_first xs)
    by true false e = nothing_more (each_first xs)
    by false true e = pushed_filter others k (each_first xs) ∙ ap (λ c. filter others (each_first xs) ++ cond (not c) (k ∷ []) []) e
    by false false e = pushed_filter others k (each_first xs) ∙ ap (λ c. filter others (each_first xs) ++ cond (not c) (k ∷ []) []) e

-- ---- no key stands in the rest behind it
abbrev pub Distinct : List Tuple → Type 0
Distinct [] = Unit {0}
Distinct (x ∷ xs) = (is_among xs x ≡ false) × Distinct xs

among_lost : (p : Tuple → Bool) (q : Tuple) (xs : List Tuple) → is_among xs q ≡ false → is_among (filter p xs) q ≡ false
among_lost p q [] h = refl
among_lost p q (x ∷ xs) h = by (p x) (is_same q x) refl (among_lost p q xs)
  where
    by : (b s : Bool) → is_same q x ≡ s → (is_among xs q ≡ false → is_among (filter p xs) q ≡ false) → is_among (cond b (x ∷ filter p xs) (filter p xs)) q ≡ false
    by b true e r = let g : true ≡ false = sym (ap (λ s. s || is_among xs q) e) ∙ h in cc
    by true false e r = ap (λ s. s || is_among (filter p xs) q) e ∙ r (sym (ap (λ s. s || is_among xs q) e) ∙ h)
    by false false e r = r (sym (ap (λ s. s || is_among xs q) e) ∙ h)

none_itself : (x : Tuple) (xs : List Tuple) → is_among (filter (λ k. not (is_same x k)) xs) x ≡ false
none_itself x [] = refl
none_itself x (y ∷ ys) = by (is_same x y) refl (none_itself x ys)
  where
    rest : List Tuple
    rest = filter (λ k. not (is_same x k)) ys

    by : (b : Bool) → is_same x y ≡ b → is_among rest x ≡ false → is_among (cond (not b) (y ∷ rest) rest) x ≡ false
    by true e h = h
    by false e h = ap (λ s. s || is_among rest x) e ∙ h

distinct_kept : (p : Tuple → Bool) (xs : List Tuple) → Distinct xs → Distinct (filter p xs)
distinct_kept p [] d = tt
distinct_kept p (x ∷ xs) d = by (p x) (distinct_kept p xs d.1)
  where
    by : (b : Bool) → Distinct (filter p xs) → Distinct (cond b (x ∷ filter p xs) (filter p xs))
    by true r = (among_lost p x xs d.0, r)
    by false r = r

pub distinct_first : (xs : List Tuple) → Distinct (each_first xs)
distinct_first [] = tt
distinct_first (x ∷ xs) = (none_itself x (each_first xs), distinct_kept (λ k. not (is_same x k)) (each_first xs) (distinct_first xs))

-- ---- the place of a key
pub some_among : (ks : List Tuple) (q : Tuple) (n : ℕ) → place_in ks q ≡ Some n → is_among ks q ≡ true
some_among [] q n h = cc
some_among (k ∷ ks) q n h = by (is_same q k) (place_in ks q) refl h (some_among ks q)
  where
    by : (s : Bool) (o : Option ℕ) → place_in ks q ≡ o → (if s then Some 0 else option_map (λ n. n + 1) o) ≡ Some n → ((m : ℕ) → place_in ks q ≡ Some m → is_among ks q ≡ true) → s || is_among ks q ≡ true
    by true o e g r = refl
    by false (Some m) e g r = r m e
    by false None e g r = cc

pub none_among : (ks : List Tuple) (q : Tuple) → place_in ks q ≡ None → is_among ks q ≡ false
none_among [] q h = refl
none_among (k ∷ ks) q h = by (is_same q k) (place_in ks q) refl h (none_among ks q)
  where
    by : (s : Bool) (o : Option ℕ) → place_in ks q ≡ o → ◌≡◌ {A = Option ℕ} (if s then Some 0 else option_map (λ n. n + 1) o) None → (place_in ks q ≡ None → is_among ks q ≡ false) → s || is_among ks q ≡ false
    by true o e g r = cc
    by false (Some m) e g r = cc
    by false None e g r = r e

pub pushed_place : (k q : Tuple) (ks : List Tuple) → is_among ks k ≡ false → place_in (ks ++ k ∷ []) q ≡ cond (is_same k q) (Some (length ks)) (place_in ks q)
pushed_place k q [] h = ap (λ s. if s then Some 0 else None) (turned (is_same k q) refl)
  where
    turned : (b : Bool) → is_same k q ≡ b → is_same q k ≡ b
    turned true e = ap (λ y. is_same q y) (same_is k q e) ∙ same_itself q
    turned false e = other_way k q e
pushed_place k q (x ∷ xs) h = by (is_same q x) refl (is_same k q) refl (pushed_place k q xs later)
  where
    apart : (b : Bool) → is_same k x ≡ b → b ≡ false
    apart true e = let g : true ≡ false = sym (ap (λ s. s || is_among xs k) e) ∙ h in cc
    apart false e = refl

    later : is_among xs k ≡ false
    later = sym (ap (λ s. s || is_among xs k) (apart (is_same k x) refl)) ∙ h

    by : (s : Bool) → is_same q x ≡ s → (t : Bool) → is_same k q ≡ t → place_in (xs ++ k ∷ []) q ≡ cond t (Some (length xs)) (place_in xs q)
        → (if s then Some 0 else option_map (λ n. n + 1) (place_in (xs ++ k ∷ []) q)) ≡ cond t (Some (length (x ∷ xs))) (if s then Some 0 else option_map (λ n. n + 1) (place_in xs q))
    by true e true f g = let both : is_same k x ≡ true = ap (is_same k) (sym (same_is q x e)) ∙ f in let no : is_same k x ≡ false = apart (is_same k x) refl in cc
    by true e false f g = refl
    by false e true f g = ap (option_map (λ n. n + 1)) g ∙ ap Some (one_more (length xs))
      where
        one_more : (n : ℕ) → n + 1 ≡ suc n
        one_more n = omega arith
    by false e false f g = ap (option_map (λ n. n + 1)) g

-- ---- the places of a key
pub pushed_places : (s : ℕ) (k q : Tuple) (ks : List Tuple) → places_from s (ks ++ k ∷ []) q ≡ places_from s ks q ++ cond (is_same q k) ((s + length ks) ∷ []) []
pushed_places s k q [] = by (is_same q k)
  where
    by : (b : Bool) → map (λ (p : ℕ × Tuple). p.0) (cond b ((s, k) ∷ []) []) ≡ cond b ((s + 0) ∷ []) []
    by true = ap (λ n. n ∷ []) (none_more s)
      where
        none_more : (n : ℕ) → n ≡ n + 0
        none_more n = omega arith
    by false = refl
pushed_places s k q (x ∷ xs) = by (is_same q x) (pushed_places (s + 1) k q xs ∙ ap (λ n. places_from (s + 1) xs q ++ cond (is_same q k) (n ∷ []) []) (moved s (length xs)))
  where
    moved : (s n : ℕ) → (s + 1) + n ≡ s + suc n
    moved s n = omega arith

    tested : List Tuple → List (ℕ × Tuple)
    tested ks = filter (λ (p : ℕ × Tuple). is_same q p.1) (enumerate_from (s + 1) ks)

    by : (b : Bool) → places_from (s + 1) (xs ++ k ∷ []) q ≡ places_from (s + 1) xs q ++ cond (is_same q k) ((s + suc (length xs)) ∷ []) []
        → map (λ (p : ℕ × Tuple). p.0) (cond b ((s, x) ∷ tested (xs ++ k ∷ [])) (tested (xs ++ k ∷ []))) ≡ map (λ (p : ℕ × Tuple). p.0) (cond b ((s, x) ∷ tested xs) (tested xs)) ++ cond (is_same q k) ((s + suc (length xs)) ∷ []) []
    by true h = ap (λ l. s ∷ l) h
    by false h = h

pub no_places : (s : ℕ) (k : Tuple) (ks : List Tuple) → is_among ks k ≡ false → places_from s ks k ≡ []
no_places s k [] h = refl
no_places s k (x ∷ xs) h = by (is_same k x) refl (no_places (s + 1) k xs)
  where
    tested : List (ℕ × Tuple)
    tested = filter (λ (p : ℕ × Tuple). is_same k p.1) (enumerate_from (s + 1) xs)

    by : (b : Bool) → is_same k x ≡ b → (is_among xs k ≡ false → places_from (s + 1) xs k ≡ []) → map (λ (p : ℕ × Tuple). p.0) (cond b ((s, x) ∷ tested) tested) ≡ []
    by true e r = let g : true ≡ false = sym (ap (λ s. s || is_among xs k) e) ∙ h in cc
    by false e r = r (sym (ap (λ s. s || is_among xs k) e) ∙ h)

-- ---- a value that is not there, and one number more
pub missing_is : {A : Type 0} (xs : List A) (i : ℕ) (d : A) → slice_get xs i ≡ None → get_or xs i d ≡ d
missing_is [] i d h = refl
missing_is (x ∷ xs) zero d h = absurd (cc)
missing_is (x ∷ xs) (suc i) d h = missing_is xs i d h

pub one_number_more : (a n : ℕ) → range_with_len a (suc n) ≡ range_with_len a n ++ (a + n) ∷ []
one_number_more a zero = ap (λ k. k ∷ []) same
  where
    same : a ≡ a + 0
    same = omega arith
one_number_more a (suc n) = ap (λ l. a ∷ l) (one_number_more (a + 1) n ∙ ap (λ k. range_with_len (a + 1) n ++ k ∷ []) same)
  where
    same : (a + 1) + n ≡ a + suc n
    same = omega arith
