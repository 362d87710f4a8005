-- Which keys are among lists.
use Rattle.std.proofs.Common.{◌≡◌, Bool, true, false, ◌&&◌, ◌||◌, List, [], ◌∷◌, ◌++◌, cond, Ordering, Less, Equal, Greater, refl, sym, ap, subst, ◌∙◌, ◌+◌}
use Rattle.std.specs.Prelude.{if◌then◌else◌}
use Rattle.std.specs.List.{filter, list_any}
use Rattle.std.specs.Ordering.{is_eq, is_gt, ordering_reverse}
use Rattle.std.proofs.lemmas.Bool.{or_left, or_right}
use Rattle.mq_values.specs.Order.{cmp_key}
use Rattle.mq_values.specs.OrderLaws.{key_total}
use Rattle.mq_values.specs.OrderTells.{key_itself}
use Rattle.mq_ir.specs.EachLaws.{Each}
use Rattle.mq_ir.specs.Keys.{Tuple, is_among, is_same}
use Rattle.mq_ir.specs.Partitions.{ascending, placed}
use Rattle.mq_change_laws.specs.SoundLaws.{same_is}

pub same_itself : (a : Tuple) → is_same a a ≡ true
same_itself a = ap is_eq (key_itself a)

-- a key that is the same as another is so from both sides
turned : (r : Ordering) → is_eq (ordering_reverse r) ≡ is_eq r
turned Less = refl
turned Equal = refl
turned Greater = refl

pub same_turned : (a b : Tuple) → is_same a b ≡ is_same b a
same_turned a b = ap is_eq (key_total.antisymm a b) ∙ turned (cmp_key b a)

-- ---- which keys are among lists
pub any_append : {A : Type 0} (p : A → Bool) (xs ys : List A) → list_any p (xs ++ ys) ≡ (list_any p xs || list_any p ys)
any_append p [] ys = refl
any_append p (x ∷ xs) ys = ap (λ b. p x || b) (any_append p xs ys) ∙ grouped (p x) (list_any p xs) (list_any p ys)
  where
    grouped : (a b c : Bool) → (a || (b || c)) ≡ ((a || b) || c)
    grouped true b c = refl
    grouped false b c = refl

either : (a b c : Bool) → (a || (b || c)) ≡ (b || (a || c))
either true true c = refl
either true false c = refl
either false true c = refl
either false false c = refl

pub any_placed : {K : Type 0} (cmp : K → K → Ordering) (p : K → Bool) (x : K) (ys : List K)
    → list_any p (placed cmp x ys) ≡ (p x || list_any p ys)
any_placed cmp p x [] = refl
any_placed cmp p x (y ∷ ys) = by (is_gt (cmp x y)) (any_placed cmp p x ys)
  where
    by : (b : Bool) → list_any p (placed cmp x ys) ≡ (p x || list_any p ys)
        → list_any p (if b then y ∷ placed cmp x ys else x ∷ y ∷ ys) ≡ (p x || (p y || list_any p ys))
    by true h = ap (λ c. p y || c) h ∙ either (p y) (p x) (list_any p ys)
    by false h = refl

pub any_ascending : {K : Type 0} (cmp : K → K → Ordering) (p : K → Bool) (xs : List K) → list_any p (ascending cmp xs) ≡ list_any p xs
any_ascending cmp p [] = refl
any_ascending cmp p (x ∷ xs) = any_placed cmp p x (ascending cmp xs) ∙ ap (λ c. p x || c) (any_ascending cmp p xs)

-- what a test keeps of a list has the keys that are among it and pass
pub among_kept : (p : Tuple → Bool) (q : Tuple) (xs : List Tuple) → is_among (filter p xs) q ≡ (p q && is_among xs q)
among_kept p q [] = none (p q)
  where
    none : (b : Bool) → false ≡ (b && false)
    none true = refl
    none false = refl
among_kept p q (x ∷ xs) = by (is_same q x) refl (p x) refl (among_kept p q xs)
  where
    by : (s : Bool) → is_same q x ≡ s → (b : Bool) → p x ≡ b → is_among (filter p xs) q ≡ (p q && is_among xs q)
        → is_among (cond b (x ∷ filter p xs) (filter p xs)) q ≡ (p q && (s || is_among xs q))
    by true e true f h =
        let g : p q ≡ true = ap p (same_is q x e) ∙ f in
        ap (λ s. s || is_among (filter p xs) q) e ∙ sym (ap (λ b. b && true) g)
    by true e false f h =
        let g : p q ≡ false = ap p (same_is q x e) ∙ f in
        h ∙ ap (λ b. b && is_among xs q) g ∙ sym (ap (λ b. b && true) g)
    by false e true f h = ap (λ s. s || is_among (filter p xs) q) e ∙ h
    by false e false f h = h

-- what holds of each key of a list holds of a key that is among them
pub each_among : (P : Tuple → Type 0) (xs : List Tuple) → Each P xs → (q : Tuple) → is_among xs q ≡ true → P q
each_among P [] a q h = cc
each_among P (x ∷ xs) a q h = by (is_same q x) refl (each_among P xs a.1 q)
  where
    by : (s : Bool) → is_same q x ≡ s → (is_among xs q ≡ true → P q) → P q
    by true e rest = subst P (sym (same_is q x e)) a.0
    by false e rest = rest (sym (ap (λ s. s || is_among xs q) e) ∙ h)

-- each key of a list is among it
pub each_itself : (cells : List Tuple) → Each (λ q. is_among cells q ≡ true) cells
each_itself [] = tt
each_itself (x ∷ xs) = (or_left (is_same x x) (is_among xs x) (same_itself x), each_more x xs xs (each_itself xs))
  where
    each_more : (x : Tuple) (all xs : List Tuple) → Each (λ q. is_among all q ≡ true) xs → Each (λ q. is_among (x ∷ all) q ≡ true) xs
    each_more x all [] a = tt
    each_more x all (y ∷ ys) a = (or_right (is_same y x) (is_among all y) a.0, each_more x all ys a.1)

-- what implies another on each item
pub each_map : {X : Type 0} (P Q : X → Type 0) → ((x : X) → P x → Q x) → (xs : List X) → Each P xs → Each Q xs
each_map P Q f [] a = tt
each_map P Q f (x ∷ xs) a = (f x a.0, each_map P Q f xs a.1)
