-- Keys that are each kept once, and the first that stands twice.
use Rattle.std.proofs.Common.{◌≡◌, ℕ, suc, ◌≤◌, arith, List, [], ◌∷◌, Bool, true, false, not, cond, length, map, Ordering, Less, Equal, Greater, Option, Some, None, refl, sym, ap, ◌∙◌}
use Rattle.std.specs.Prelude.{if◌then◌else◌, nat_le}
use Rattle.std.specs.List.{filter}
use Rattle.std.proofs.lemmas.Bool.Decides.{nat_tests}
use Rattle.std.specs.Ordering.{is_eq, is_lt, ordering_reverse}
use Rattle.mq_values.specs.Order.{cmp_key}
use Rattle.mq_values.specs.OrderLaws.{key_total}
use Rattle.mq_values.specs.OrderTells.{key_itself, same_key}
use Rattle.mq_ir.specs.Keys.{Tuple, each_first, is_same}
use Rattle.mq_ir.specs.Partitions.{ascending, first_of, repeated, stands_twice}
use Rattle.mq_shape.specs.Repeats.{first_twice, twice_from}
use Rattle.mq_ir.specs.Rising.{Low, Rising}
use Rattle.mq_ir.specs.SortLaws.{none_tied, one_rising, rising_ascending, rising_kept, tied_ascending}

equal_is : (r : Ordering) → is_eq r ≡ true → r ≡ Equal
equal_is Less h = cc
equal_is Equal h = refl
equal_is Greater h = cc

pub same_is : (a b : Tuple) → is_same a b ≡ true → a ≡ b
same_is a b h = same_key a b (equal_is (cmp_key a b) h)

pub same_itself : (a : Tuple) → is_same a a ≡ true
same_itself a = ap is_eq (key_itself a)

-- a key that another one is not is not that one either
pub other_way : (a b : Tuple) → is_same a b ≡ false → is_same b a ≡ false
other_way a b h = by (is_same b a) refl
  where
    by : (s : Bool) → is_same b a ≡ s → s ≡ false
    by true e = let g : is_same a b ≡ true = ap (is_same a) (same_is b a e) ∙ same_itself a in cc
    by false e = refl

-- tests one after another
module _ {A : Type 0} where
  pub kept_twice : (p r : A → Bool) → ((z : A) → p z ≡ true → r z ≡ true) → (xs : List A) → filter p (filter r xs) ≡ filter p xs
  kept_twice p r h [] = refl
  kept_twice p r h (x ∷ xs) = by (r x) refl (p x) refl (kept_twice p r h xs)
    where
      by : (b : Bool) → r x ≡ b → (c : Bool) → p x ≡ c → filter p (filter r xs) ≡ filter p xs → filter p (cond b (x ∷ filter r xs) (filter r xs)) ≡ cond c (x ∷ filter p xs) (filter p xs)
      by true e true f g = ap (λ c. cond c (x ∷ filter p (filter r xs)) (filter p (filter r xs))) f ∙ ap (λ l. x ∷ l) g
      by true e false f g = ap (λ c. cond c (x ∷ filter p (filter r xs)) (filter p (filter r xs))) f ∙ g
      by false e true f g = let k = h x f in cc
      by false e false f g = g

  pub kept_either : (p r : A → Bool) (xs : List A) → filter p (filter r xs) ≡ filter r (filter p xs)
  kept_either p r [] = refl
  kept_either p r (x ∷ xs) = by (r x) refl (p x) refl (kept_either p r xs)
    where
      by : (b : Bool) → r x ≡ b → (c : Bool) → p x ≡ c → filter p (filter r xs) ≡ filter r (filter p xs)
          → filter p (cond b (x ∷ filter r xs) (filter r xs)) ≡ filter r (cond c (x ∷ filter p xs) (filter p xs))
      by true e true f g =
          ap (λ c. cond c (x ∷ filter p (filter r xs)) (filter p (filter r xs))) f
          ∙ ap (λ l. x ∷ l) g
          ∙ sym (ap (λ b. cond b (x ∷ filter r (filter p xs)) (filter r (filter p xs))) e)
      by true e false f g = ap (λ c. cond c (x ∷ filter p (filter r xs)) (filter p (filter r xs))) f ∙ g
      by false e true f g = g ∙ sym (ap (λ b. cond b (x ∷ filter r (filter p xs)) (filter r (filter p xs))) e)
      by false e false f g = g

  pub kept_mapped : {B : Type 0} (f : A → B) (p : B → Bool) (xs : List A) → filter p (map f xs) ≡ map f (filter (λ x. p (f x)) xs)
  kept_mapped f p [] = refl
  kept_mapped f p (x ∷ xs) = by (p (f x)) (kept_mapped f p xs)
    where
      by : (b : Bool) → filter p (map f xs) ≡ map f (filter (λ x. p (f x)) xs) → cond b (f x ∷ filter p (map f xs)) (filter p (map f xs)) ≡ map f (cond b (x ∷ filter (λ x. p (f x)) xs) (filter (λ x. p (f x)) xs))
      by true g = ap (λ l. f x ∷ l) g
      by false g = g

-- of a key, each_first leaves its first
abbrev front : List Tuple → List Tuple
front [] = []
front (x ∷ xs) = x ∷ []

none_both : (q x : Tuple) → is_same q x ≡ true → (xs : List Tuple) → filter (is_same q) (filter (λ k. not (is_same x k)) xs) ≡ []
none_both q x h [] = refl
none_both q x h (y ∷ ys) = by (is_same x y) refl (is_same q y) refl (none_both q x h ys)
  where
    tested : List Tuple
    tested = filter (λ k. not (is_same x k)) ys

    by : (b : Bool) → is_same x y ≡ b → (c : Bool) → is_same q y ≡ c → filter (is_same q) tested ≡ [] → filter (is_same q) (cond (not b) (y ∷ tested) tested) ≡ []
    by true e c f g = g
    by false e true f g =
        let k : is_same x y ≡ true = sym (ap (λ a. is_same a y) (same_is q x h)) ∙ f in cc
    by false e false f g = ap (λ c. cond c (y ∷ filter (is_same q) tested) (filter (is_same q) tested)) f ∙ g

first_of_each : (q : Tuple) (xs : List Tuple) → filter (is_same q) (each_first xs) ≡ front (filter (is_same q) xs)
first_of_each q [] = refl
first_of_each q (x ∷ xs) = by (is_same q x) refl (first_of_each q xs)
  where
    rest : List Tuple
    rest = filter (λ k. not (is_same x k)) (each_first xs)

    passes : is_same q x ≡ false → (z : Tuple) → is_same q z ≡ true → not (is_same x z) ≡ true
    passes e z f = ap not (ap (is_same x) (sym (same_is q z f)) ∙ other_way q x e)

    by : (b : Bool) → is_same q x ≡ b → filter (is_same q) (each_first xs) ≡ front (filter (is_same q) xs)
        → cond b (x ∷ filter (is_same q) rest) (filter (is_same q) rest) ≡ front (cond b (x ∷ filter (is_same q) xs) (filter (is_same q) xs))
    by true e g = ap (λ l. x ∷ l) (none_both q x e (each_first xs))
    by false e g = kept_twice (is_same q) (λ k. not (is_same x k)) (passes e) (each_first xs) ∙ g

rising_first : (xs : List Tuple) → Rising cmp_key xs → Rising cmp_key (each_first xs)
rising_first [] r = tt
rising_first (x ∷ xs) r =
    (low_first x xs r.0, rising_kept key_total (λ k. not (is_same x k)) (each_first xs) (rising_first xs r.1))
  where
    low_kept : (p : Tuple → Bool) (x : Tuple) (ys : List Tuple) → Low cmp_key x ys → Low cmp_key x (filter p ys)
    low_kept p x [] l = tt
    low_kept p x (y ∷ ys) l = pick (p y) (low_kept p x ys l.1)
      where
        pick : (b : Bool) → Low cmp_key x (filter p ys) → Low cmp_key x (cond b (y ∷ filter p ys) (filter p ys))
        pick true r = (l.0, r)
        pick false r = r

    low_each : (x : Tuple) (ys : List Tuple) → Low cmp_key x ys → Low cmp_key x (each_first ys)
    low_each x [] l = tt
    low_each x (y ∷ ys) l = (l.0, low_kept (λ k. not (is_same y k)) x (each_first ys) (low_each x ys l.1))

    low_first : (x : Tuple) (xs : List Tuple) → Low cmp_key x xs → Low cmp_key x (filter (λ k. not (is_same x k)) (each_first xs))
    low_first x xs l = low_kept (λ k. not (is_same x k)) x (each_first xs) (low_each x xs l)

-- keys in order, each once
pub first_ascending : (xs : List Tuple) → ascending cmp_key (each_first xs) ≡ each_first (ascending cmp_key xs)
first_ascending xs =
    one_rising key_total (ascending cmp_key (each_first xs)) (each_first (ascending cmp_key xs))
    (rising_ascending key_total (each_first xs))
    (rising_first (ascending cmp_key xs) (rising_ascending key_total xs))
    (λ q. tied_ascending key_total q (each_first xs) ∙ first_of_each q xs ∙ ap front (sym (tied_ascending key_total q xs)) ∙ sym (first_of_each q (ascending cmp_key xs)))

-- a test and each_first
pub first_kept : (p : Tuple → Bool) (xs : List Tuple) → filter p (each_first xs) ≡ each_first (filter p xs)
first_kept p [] = refl
first_kept p (x ∷ xs) = by (p x) refl (first_kept p xs)
  where
    others : Tuple → Bool
    others k = not (is_same x k)

    passes : p x ≡ false → (z : Tuple) → p z ≡ true → others z ≡ true
    passes e z f = pick (is_same x z) refl
      where
        pick : (b : Bool) → is_same x z ≡ b → not b ≡ true
        pick true g = let k : p x ≡ true = ap p (same_is x z g) ∙ f in cc
        pick false g = refl

    by : (b : Bool) → p x ≡ b → filter p (each_first xs) ≡ each_first (filter p xs) → cond b (x ∷ filter p (filter others (each_first xs))) (filter p (filter others (each_first xs))) ≡ each_first (cond b (x ∷ filter p xs) (filter p xs))
    by true e g = ap (λ l. x ∷ l) (kept_either p others (each_first xs) ∙ ap (filter others) g)
    by false e g = kept_twice p others (passes e) (each_first xs) ∙ g

-- ---- the least that stands twice
-- of tuples that rise, x is less than those behind one that it is not
module _ (x : Tuple) where
  abbrev Above : List Tuple → Type 0
  Above [] = Unit {0}
  Above (z ∷ zs) = (is_same z x ≡ false) × Above zs

  apart : (z : Tuple) → cmp_key x z ≡ Less → is_same z x ≡ false
  apart z h = other_way x z (ap is_eq h)

  more : (z : Tuple) (zs : List Tuple) → is_same z x ≡ false → stands_twice (x ∷ zs) z ≡ stands_twice zs z
  more z zs h = ap (λ b. nat_le 2 (length (cond b (x ∷ filter (is_same z) zs) (filter (is_same z) zs)))) h

  same_behind : (zs ys : List Tuple) → Above ys → filter (stands_twice (x ∷ zs)) ys ≡ filter (stands_twice zs) ys
  same_behind zs [] a = refl
  same_behind zs (y ∷ ys) a = (λ i. cond (more y zs a.0 i) (y ∷ same_behind zs ys a.1 i) (same_behind zs ys a.1 i))

once_alone : (x : Tuple) (ys : List Tuple) → filter (is_same x) ys ≡ [] → stands_twice (x ∷ ys) x ≡ false
once_alone x ys h =
    ap (λ b. nat_le 2 (length (cond b (x ∷ filter (is_same x) ys) (filter (is_same x) ys)))) (same_itself x)
    ∙ ap (λ l. nat_le 2 (length (x ∷ l))) h

twice_there : (x y : Tuple) (ys : List Tuple) → is_same x y ≡ true → stands_twice (x ∷ y ∷ ys) x ≡ true
twice_there x y ys h =
    (λ i. nat_le 2 (length (cond (same_itself x i) (x ∷ cond (h i) (y ∷ filter (is_same x) ys) (filter (is_same x) ys)) (cond (h i) (y ∷ filter (is_same x) ys) (filter (is_same x) ys)))))
    ∙ two (length (filter (is_same x) ys))
  where
    two : (n : ℕ) → nat_le 2 (suc (suc n)) ≡ true
    two n = grind (arith, nat_tests)

first_of_rising : (x : Tuple) (xs : List Tuple) → Rising cmp_key (x ∷ xs) → first_of (filter (stands_twice (x ∷ xs)) (x ∷ xs)) ≡ twice_from x xs
first_of_rising x [] r = ap (λ b. first_of (cond b (x ∷ []) [])) (once_alone x [] refl)
first_of_rising x (y ∷ ys) r = by (cmp_key x y) refl (first_of_rising y ys r.1)
  where
    later : List Tuple
    later = filter (stands_twice (x ∷ y ∷ ys)) (y ∷ ys)

    less_on : (z : Tuple) → cmp_key x y ≡ Less → is_lt (cmp_key z y) ≡ false → cmp_key x z ≡ Less
    less_on z h l = pick (cmp_key x z) refl
      where
        pick : (t : Ordering) → cmp_key x z ≡ t → t ≡ Less
        pick Less e = refl
        pick Equal e = let t : is_lt (cmp_key z y) ≡ true = ap is_lt (sym (key_total.congr x z y e) ∙ h) in cc
        pick Greater e = let t : is_lt (cmp_key z y) ≡ true = ap is_lt (key_total.trans z x y (key_total.antisymm z x ∙ ap ordering_reverse e) h) in cc

    above : cmp_key x y ≡ Less → (zs : List Tuple) → Low cmp_key y zs → Above x zs
    above h [] l = tt
    above h (z ∷ zs) l = (apart x z (less_on z h l.0), above h zs l.1)

    alone : cmp_key x y ≡ Less → filter (is_same x) (y ∷ ys) ≡ []
    alone h = ap (λ t. cond (is_eq t) (y ∷ filter (is_same x) ys) (filter (is_same x) ys)) h ∙ none_tied key_total x y ys h r.1.0

    by : (t : Ordering) → cmp_key x y ≡ t → first_of (filter (stands_twice (y ∷ ys)) (y ∷ ys)) ≡ twice_from y ys
        → first_of (cond (stands_twice (x ∷ y ∷ ys) x) (x ∷ later) later) ≡ (if is_eq t then Some x else twice_from y ys)
    by Equal e h = ap (λ b. first_of (cond b (x ∷ later) later)) (twice_there x y ys (ap is_eq e))
    by Less e h =
        ap (λ b. first_of (cond b (x ∷ later) later)) (once_alone x (y ∷ ys) (alone e))
        ∙ ap first_of (same_behind x (y ∷ ys) (y ∷ ys) (apart x y e, above e ys r.1.0))
        ∙ h
    by Greater e h = let k : is_lt (cmp_key y x) ≡ true = ap is_lt (key_total.antisymm y x ∙ ap ordering_reverse e) in let l = r.0.0 in cc

twice_of_rising : (xs : List Tuple) → Rising cmp_key xs → first_of (filter (stands_twice xs) xs) ≡ first_twice xs
twice_of_rising [] r = refl
twice_of_rising (x ∷ xs) r = first_of_rising x xs r

kept_in_order : (p : Tuple → Bool) (xs : List Tuple) → ascending cmp_key (filter p xs) ≡ filter p (ascending cmp_key xs)
kept_in_order p xs =
    one_rising key_total (ascending cmp_key (filter p xs)) (filter p (ascending cmp_key xs))
    (rising_ascending key_total (filter p xs))
    (rising_kept key_total p (ascending cmp_key xs) (rising_ascending key_total xs))
    (λ q. tied_ascending key_total q (filter p xs)
    ∙ kept_either (is_same q) p xs
    ∙ ap (filter p) (sym (tied_ascending key_total q xs))
    ∙ kept_either p (is_same q) (ascending cmp_key xs))

pub repeated_is : (keys : List Tuple) → first_twice (ascending cmp_key keys) ≡ repeated keys
repeated_is keys =
    sym (twice_of_rising (ascending cmp_key keys) (rising_ascending key_total keys))
    ∙ ap (λ (p : Tuple → Bool). first_of (filter p (ascending cmp_key keys))) alike
    ∙ ap first_of (sym (kept_in_order (stands_twice keys) keys))
  where
    alike : stands_twice (ascending cmp_key keys) ≡ stands_twice keys
    alike = λ i k. nat_le 2 (length (tied_ascending key_total k keys i))

-- fewer than two tuples
pub short_twice : (xs : List Tuple) → length xs ≤ 1 → first_twice xs ≡ None
short_twice [] h = refl
short_twice (x ∷ []) h = refl
short_twice (x ∷ y ∷ ys) h = absurd (omega arith)
