-- How often keys stand in lists.
use Rattle.std.proofs.Common.{◌≡◌, ℕ, ◌+◌, ◌≤◌, List, [], ◌∷◌, Bool, true, false, not, ◌||◌, cond, length, Ordering, Less, Equal, Greater, refl, sym, ap, ◌∙◌, arith}
use Rattle.std.specs.Prelude.{if◌then◌else◌}
use Rattle.std.specs.List.{filter}
use Rattle.std.specs.Ordering.{is_eq, is_gt}
use Rattle.mq_values.specs.Order.{cmp_key}
use Rattle.mq_values.specs.OrderTells.{key_itself, same_key}
use Rattle.mq_ir.specs.Keys.{Tuple, each_first, is_among, is_same}
use Rattle.mq_ir.specs.Partitions.{ascending, placed}
use Rattle.mq_ir.specs.RowLaws.{times}

equal_is : (r : Ordering) → is_eq r ≡ true → r ≡ Equal
equal_is Less h = cc
equal_is Equal h = refl
equal_is Greater h = cc

pub same_itself : (a : Tuple) → is_same a a ≡ true
same_itself a = ap is_eq (key_itself a)

pub same_is : (a b : Tuple) → is_same a b ≡ true → a ≡ b
same_is a b h = same_key a b (equal_is (cmp_key a b) h)

-- one key, as often as it is q
abbrev pub once_if : Bool → ℕ
once_if b = cond b 1 0

pub times_more : (q x : Tuple) (xs : List Tuple) → times q (x ∷ xs) ≡ once_if (is_same q x) + times q xs
times_more q x xs = by (is_same q x)
  where
    by : (b : Bool) → length (cond b (x ∷ filter (is_same q) xs) (filter (is_same q) xs)) ≡ once_if b + times q xs
    by true = omega arith
    by false = omega arith

pub times_placed : (cmp : Tuple → Tuple → Ordering) (q x : Tuple) (ys : List Tuple) → times q (placed cmp x ys) ≡ once_if (is_same q x) + times q ys
times_placed cmp q x [] = times_more q x []
times_placed cmp q x (y ∷ ys) = by (is_gt (cmp x y)) (times_placed cmp q x ys)
  where
    by : (b : Bool) → times q (placed cmp x ys) ≡ once_if (is_same q x) + times q ys → times q (if b then y ∷ placed cmp x ys else x ∷ y ∷ ys) ≡ once_if (is_same q x) + times q (y ∷ ys)
    by true h = omega (arith, h, times_more q y (placed cmp x ys), times_more q y ys)
    by false h = times_more q x (y ∷ ys)

-- sorting keeps how often a key stands
pub times_ascending : (cmp : Tuple → Tuple → Ordering) (q : Tuple) (xs : List Tuple) → times q (ascending cmp xs) ≡ times q xs
times_ascending cmp q [] = refl
times_ascending cmp q (x ∷ xs) = omega (arith, times_placed cmp q x (ascending cmp xs), times_ascending cmp q xs, times_more q x xs)

-- a key is among those that have it at least once
pub among_some : (q : Tuple) (xs : List Tuple) → is_among xs q ≡ true → 1 ≤ times q xs
among_some q [] h = cc
among_some q (x ∷ xs) h = by (is_same q x) refl (among_some q xs)
  where
    by : (b : Bool) → is_same q x ≡ b → (is_among xs q ≡ true → 1 ≤ times q xs) → 1 ≤ times q (x ∷ xs)
    by true e r = let o : once_if (is_same q x) ≡ 1 = ap once_if e in omega (arith, o, times_more q x xs)
    by false e r = let g : is_among xs q ≡ true = sym (ap (λ b. b || is_among xs q) e) ∙ h in omega (arith, times_more q x xs, r g)

pub among_none : (q : Tuple) (xs : List Tuple) → is_among xs q ≡ false → times q xs ≡ 0
among_none q [] h = refl
among_none q (x ∷ xs) h = by (is_same q x) refl (among_none q xs)
  where
    by : (b : Bool) → is_same q x ≡ b → (is_among xs q ≡ false → times q xs ≡ 0) → times q (x ∷ xs) ≡ 0
    by true e r = let g : true ≡ false = sym (ap (λ b. b || is_among xs q) e) ∙ h in cc
    by false e r =
        let g : is_among xs q ≡ false = sym (ap (λ b. b || is_among xs q) e) ∙ h in
        let o : once_if (is_same q x) ≡ 0 = ap once_if e in
        omega (arith, o, times_more q x xs, r g)

-- lists that have a key equally often have it among them alike
pub among_alike : (q : Tuple) (xs ys : List Tuple) → times q xs ≡ times q ys → is_among xs q ≡ is_among ys q
among_alike q xs ys h = by (is_among xs q) refl (is_among ys q) refl
  where
    by : (a : Bool) → is_among xs q ≡ a → (b : Bool) → is_among ys q ≡ b → a ≡ b
    by true e true f = refl
    by false e false f = refl
    by true e false f = absurd (omega (arith, h, among_some q xs e, among_none q ys f))
    by false e true f = absurd (omega (arith, h, among_none q xs e, among_some q ys f))

-- what is filtered keeps a key that passes, and loses one that does not
pub times_kept : (p : Tuple → Bool) (q : Tuple) (xs : List Tuple) → p q ≡ true → times q (filter p xs) ≡ times q xs
times_kept p q [] h = refl
times_kept p q (x ∷ xs) h = by (p x) refl (is_same q x) refl (times_kept p q xs h)
  where
    by : (b : Bool) → p x ≡ b → (s : Bool) → is_same q x ≡ s → times q (filter p xs) ≡ times q xs → times q (cond b (x ∷ filter p xs) (filter p xs)) ≡ times q (x ∷ xs)
    by true e s f r = omega (arith, times_more q x (filter p xs), times_more q x xs, r)
    by false e true f r = let g : p q ≡ p x = ap p (same_is q x f) in cc
    by false e false f r = let g : once_if (is_same q x) ≡ 0 = ap once_if f in omega (arith, g, times_more q x xs, r)

pub times_lost : (p : Tuple → Bool) (q : Tuple) (xs : List Tuple) → p q ≡ false → times q (filter p xs) ≡ 0
times_lost p q [] h = refl
times_lost p q (x ∷ xs) h = by (p x) refl (is_same q x) refl (times_lost p q xs h)
  where
    by : (b : Bool) → p x ≡ b → (s : Bool) → is_same q x ≡ s → times q (filter p xs) ≡ 0 → times q (cond b (x ∷ filter p xs) (filter p xs)) ≡ 0
    by true e true f r = let g : p q ≡ p x = ap p (same_is q x f) in cc
    by true e false f r = let g : once_if (is_same q x) ≡ 0 = ap once_if f in omega (arith, g, times_more q x (filter p xs), r)
    by false e s f r = r

-- each key stands once in the list of the first of each
pub times_first : (q : Tuple) (xs : List Tuple) → times q (each_first xs) ≡ once_if (is_among xs q)
times_first q [] = refl
times_first q (x ∷ xs) = by (is_same q x) refl (times_first q xs)
  where
    rest : List Tuple
    rest = filter (λ k. not (is_same x k)) (each_first xs)

    by : (s : Bool) → is_same q x ≡ s → times q (each_first xs) ≡ once_if (is_among xs q) → times q (x ∷ rest) ≡ once_if (s || is_among xs q)
    by true f r =
        let g : not (is_same x q) ≡ false = ap (λ k. not (is_same x k)) (same_is q x f) ∙ ap not (same_itself x) in
        let o : once_if (is_same q x) ≡ 1 = ap once_if f in
        omega (arith, o, times_more q x rest, times_lost (λ k. not (is_same x k)) q (each_first xs) g)
    by false f r = other (is_same x q) refl
      where
        other : (b : Bool) → is_same x q ≡ b → times q (x ∷ rest) ≡ once_if (is_among xs q)
        other true e = let g : is_same q x ≡ true = ap (λ k. is_same q k) (same_is x q e) ∙ same_itself q in cc
        other false e =
            let o : once_if (is_same q x) ≡ 0 = ap once_if f in
            omega (arith, o, times_more q x rest, times_kept (λ k. not (is_same x k)) q (each_first xs) (ap not e), r)
