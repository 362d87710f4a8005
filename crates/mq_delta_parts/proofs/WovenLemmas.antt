-- Lists that are woven of two.
use Rattle.std.proofs.Common.{◌≡◌, ◌≤◌, ◌+◌, List, [], ◌∷◌, ◌++◌, length, length-append, map, refl, sym, ap, arith}
use Rattle.mq_delta_parts.specs.Woven.{Woven, woven_end, woven_some, woven_stay}

module _ {A : Type 0} where
  pub woven_mapped : {B : Type 0} (f : A → B) {stay some all : List A} → Woven stay some all → Woven (map f stay) (map f some) (map f all)
  woven_mapped f woven_end = woven_end
  woven_mapped f (woven_stay w) = woven_stay (woven_mapped f w)
  woven_mapped f (woven_some w) = woven_some (woven_mapped f w)

  -- nothing stays, and nothing else
  pub woven_alone : {some all : List A} → Woven [] some all → some ≡ all
  woven_alone woven_end = refl
  woven_alone (woven_some {x = x} w) = ap (λ l. x ∷ l) (woven_alone w)

  -- what is left of some items, where these others go
  abbrev pub left : {B : Type 0} → List B → List A → List A
  left [] xs = xs
  left (g ∷ gone) xs = []

  pub left_none : {B : Type 0} (gone : List B) → left gone [] ≡ []
  left_none [] = refl
  left_none (g ∷ gone) = refl

  pub left_mapped : {B C : Type 0} (f : B → C) (gone : List B) (xs : List A) → left (map f gone) xs ≡ left gone xs
  left_mapped f [] xs = refl
  left_mapped f (g ∷ gone) xs = refl

  -- of one item at most, what a change leaves, and what comes
  pub changed_one : {stay gone come old new : List A} → Woven stay gone old → Woven stay come new
      → length old ≤ 1 → length (left gone old ++ come) ≤ 1 → new ≡ left gone old ++ come
  changed_one woven_end v h k = sym (woven_alone v)
  changed_one (woven_stay {x = x} w) v h k = one w v h k
    where
      one : {stay gone come old new : List A} → Woven stay gone old → Woven (x ∷ stay) come new
          → length (x ∷ old) ≤ 1 → length (left gone (x ∷ old) ++ come) ≤ 1 → new ≡ left gone (x ∷ old) ++ come
      one woven_end (woven_stay v) h k = ap (λ l. x ∷ l) (sym (woven_alone v))
      one woven_end (woven_some v) h k = absurd (omega arith)
      one (woven_stay w) v h k = absurd (omega arith)
      one (woven_some w) v h k = absurd (omega arith)
  changed_one (woven_some {x = x} w) v h k = one w v h
    where
      one : {stay gone come old new : List A} → Woven stay gone old → Woven stay come new → length (x ∷ old) ≤ 1 → new ≡ come
      one woven_end v h = sym (woven_alone v)
      one (woven_stay w) v h = absurd (omega arith)
      one (woven_some w) v h = absurd (omega arith)

  woven_length : {stay some all : List A} → Woven stay some all → length all ≡ length stay + length some
  woven_length woven_end = refl
  woven_length (woven_stay w) = let n = woven_length w in omega (arith, n)
  woven_length (woven_some w) = let n = woven_length w in omega (arith, n)

  -- of one item at most, a change leaves no more, whether it was there or came
  pub few_left : {stay new : List A} (gone come old : List A) → Woven stay gone old → Woven stay come new → length new ≤ 1
      → length (left gone old ++ come) ≤ 1
  few_left [] come old w v h = omega (arith, woven_length w, woven_length v, h, length-append old come)
  few_left (g ∷ gone) come old w v h = omega (arith, woven_length v, h)
