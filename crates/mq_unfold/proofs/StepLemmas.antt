-- The steps of FOR by their numbers.
use Rattle.std.proofs.Common.{◌≡◌, ℕ, zero, suc, ◌+◌, ◌*◌, ◌/◌, ◌^◌, ◌≤◌, ◌<◌, ℤ, pos, negsuc, neg_ℤ, ◌<ℤ◌, ◌+ℤ◌, ◌-ℤ◌, ◌*ℤ◌, ◌≤ℤ◌, Bool, true, false, List, [], ◌∷◌, ◌++◌, map, length, min, Option, Some, None, refl, sym, ap, ◌∙◌, arith, add-one, subst, int_le, int_lt, ◌&&◌, ◌==◌, if◌then◌else◌}
use Rattle.std.specs.Prelude.{unsigned_abs, IsTrue}
use Rattle.std.specs.List.{range_with_len}
use Rattle.std.specs.Option.{option_map_or}
use Rattle.std.proofs.lemmas.Int.{ints}
use Rattle.std.proofs.lemmas.List.FromFn.{length-map-range_with_len}
use Rattle.std.proofs.Math.IntN.{pos-*ℤ-pos, suc_ℤ-*ℤ, zero-*ℤ}
use Rattle.std.proofs.Math.Nat.{div-mul-le_self, mul-le-mul_right}
use Rattle.mq_values.specs.Number.{Number, is_mantissa}
use Rattle.mq_values.specs.declared.limits.TheConstants.{MAX_SINGLE_LEFT_SIDES}
use Rattle.mq_values.specs.declared.value.Value.{Value}
use Rattle.mq_values.specs.declared.value.Value.TheVariants as value
use Rattle.mq_ir.specs.declared.query.SinglePlace.{SinglePlace}
use Rattle.mq_ir.specs.declared.query.SinglePlace.TheVariants as place
use Rattle.mq_ir.specs.Unfolding.{progression, regression, steps_of}
use Rattle.mq_unfold.proofs.ListLemmas.{range_on}
use Rattle.mq_unfold.specs.declared.courses.Course.{Course}
use Rattle.mq_unfold.specs.declared.courses.Line.{Line}
use Rattle.mq_unfold.specs.declared.courses.Line.TheVariants.{Numbers, Days}
use Rattle.mq_unfold.specs.Steps.{HasEnds, IsOn, after, course_of, course_places, last_of, last_step, days, moved, over_days, place_on, stepped, value_on}

map_map : {A B C : Type 0} (f : B → C) (g : A → B) (xs : List A) → map f (map g xs) ≡ map (λ x. f (g x)) xs
map_map f g [] = refl
map_map f g (x ∷ xs) = ap (λ ys. f (g x) ∷ ys) (map_map f g xs)

map_alike : {A B : Type 0} (f g : A → B) → ((x : A) → f x ≡ g x) → (xs : List A) → map f xs ≡ map g xs
map_alike f g h [] = refl
map_alike f g h (x ∷ xs) = λ i. h x i ∷ map_alike f g h xs i

turned_test : (a b : ℤ) → int_le a (a +ℤ (a -ℤ b)) ≡ int_le b a
turned_test a b = grind (arith, ints)

turned_gap : (a b : ℤ) → (a +ℤ (a -ℤ b)) -ℤ a ≡ a -ℤ b
turned_gap a b = omega (arith, ints)

turned_step : (a x : ℤ) → a -ℤ ((a +ℤ x) -ℤ a) ≡ a -ℤ x
turned_step a x = omega (arith, ints)

-- ---- whole numbers, whatever each of them stands for
module _ {A : Type 0} (f : ℤ → A) where
  -- what the number of the last step says
  abbrev from_last : Bool → ℤ → ℤ → Option ℕ → List A
  from_last down start step last = option_map_or (λ last. map (λ k. f (after down start step k)) (range_with_len 0 (last + 1))) last []

  up_steps : (start stop step : ℤ) → map f (progression start stop step) ≡ from_last false start step (last_step start stop step)
  up_steps start stop (pos zero) = refl
  up_steps start stop (negsuc n) = refl
  up_steps start stop (pos (suc n)) = by (int_le start stop)
    where
      by : (b : Bool) → map f (if b then map (λ k. start +ℤ (pos k *ℤ pos (suc n))) (range_with_len 0 (suc (unsigned_abs (stop -ℤ start) / suc n))) else [])
          ≡ from_last false start (pos (suc n)) (if b then Some (unsigned_abs (stop -ℤ start) / suc n) else None)
      by true =
          map_map f (λ k. start +ℤ (pos k *ℤ pos (suc n))) (range_with_len 0 (suc (unsigned_abs (stop -ℤ start) / suc n)))
          ∙ ap (λ m. map (λ k. f (start +ℤ (pos k *ℤ pos (suc n)))) (range_with_len 0 m)) (sym (add-one (unsigned_abs (stop -ℤ start) / suc n)))
      by false = refl

  down_steps : (start stop step : ℤ) → map f (regression start stop step) ≡ from_last true start step (last_step stop start step)
  down_steps start stop (pos zero) = refl
  down_steps start stop (negsuc n) = refl
  down_steps a stop (pos (suc n)) =
      ap (λ b. map f (map (λ d. a -ℤ (d -ℤ a)) (if b then map (λ k. a +ℤ (pos k *ℤ pos (suc n))) (range_with_len 0 (suc (unsigned_abs ((a +ℤ (a -ℤ stop)) -ℤ a) / suc n))) else []))) (turned_test a stop)
      ∙ ap (λ gap. map f (map (λ d. a -ℤ (d -ℤ a)) (if int_le stop a then map (λ k. a +ℤ (pos k *ℤ pos (suc n))) (range_with_len 0 (suc (unsigned_abs gap / suc n))) else []))) (turned_gap a stop)
      ∙ by (int_le stop a)
    where
      by : (b : Bool) → map f (map (λ d. a -ℤ (d -ℤ a)) (if b then map (λ k. a +ℤ (pos k *ℤ pos (suc n))) (range_with_len 0 (suc (unsigned_abs (a -ℤ stop) / suc n))) else []))
          ≡ from_last true a (pos (suc n)) (if b then Some (unsigned_abs (a -ℤ stop) / suc n) else None)
      by true =
          map_map f (λ d. a -ℤ (d -ℤ a)) (map (λ k. a +ℤ (pos k *ℤ pos (suc n))) (range_with_len 0 (suc (unsigned_abs (a -ℤ stop) / suc n))))
          ∙ map_map (λ d. f (a -ℤ (d -ℤ a))) (λ k. a +ℤ (pos k *ℤ pos (suc n))) (range_with_len 0 (suc (unsigned_abs (a -ℤ stop) / suc n)))
          ∙ map_alike (λ k. f (a -ℤ ((a +ℤ (pos k *ℤ pos (suc n))) -ℤ a))) (λ k. f (a -ℤ (pos k *ℤ pos (suc n))))
          (λ k. ap f (turned_step a (pos k *ℤ pos (suc n)))) (range_with_len 0 (suc (unsigned_abs (a -ℤ stop) / suc n)))
          ∙ ap (λ m. map (λ k. f (a -ℤ (pos k *ℤ pos (suc n)))) (range_with_len 0 m)) (sym (add-one (unsigned_abs (a -ℤ stop) / suc n)))
      by false = refl

one_more : (step : ℤ) (k : ℕ) → pos (k + 1) *ℤ step ≡ (pos k *ℤ step) +ℤ step
one_more step k = ap (λ m. pos m *ℤ step) (add-one k) ∙ suc_ℤ-*ℤ (pos k) step

-- one step further
pub moved_on : (down : Bool) (start step : ℤ) (k : ℕ) → moved down (after down start step k) step ≡ after down start step (k + 1)
moved_on true start step k = let e = one_more step k in omega (arith, ints, e)
moved_on false start step k = let e = one_more step k in omega (arith, ints, e)

unmoved : (down : Bool) (from step : ℤ) → from ≡ after down from step 0
unmoved true from step = let e = zero-*ℤ step in omega (arith, ints, e)
unmoved false from step = let e = zero-*ℤ step in omega (arith, ints, e)

-- the way that k steps go
pub record Between (low high way : ℤ) : Type 0 where
  pub forward : pos 0 ≤ℤ way
  pub short : (low +ℤ way) ≤ℤ high

between : (low high step : ℤ) (last k : ℕ) → last_step low high step ≡ Some last → k ≤ last → Between low high (pos k *ℤ step)
between low high (pos zero) last k h l = absurd (cc)
between low high (negsuc n) last k h l = absurd (cc)
between low high (pos (suc n)) last k h l = by (int_le low high) refl h
  where
    by : (b : Bool) → int_le low high ≡ b → (if b then Some (unsigned_abs (high -ℤ low) / suc n) else None) ≡ Some last → Between low high (pos k *ℤ pos (suc n))
    by true e g =
        let q : unsigned_abs (high -ℤ low) / suc n ≡ last = cc in
        let m = mul-le-mul_right (suc n) l in
        let d = div-mul-le_self (unsigned_abs (high -ℤ low)) (suc n) in
        let p = pos-*ℤ-pos k (suc n) in
        let t : last * suc n ≤ unsigned_abs (high -ℤ low) = rw q at d in
        record { forward = rw p (omega (arith, ints)); short = rw p (omega (arith, ints, m, t)) }
    by false e g = absurd (cc)

-- what holds of two whole numbers and of all between them
abbrev IsConvex : (ℤ → Type 0) → Type 0
IsConvex P = (a b z : ℤ) → P a → P b → a ≤ℤ z → z ≤ℤ b → P z

in_bounds : (z : ℤ) → is_mantissa z ≡ true → (neg_ℤ (pos (2 ^ 127)) ≤ℤ z) × (z <ℤ pos (2 ^ 127))
in_bounds z h = by (int_le (neg_ℤ (pos (2 ^ 127))) z) (int_lt z (pos (2 ^ 127))) refl refl h
  where
    by : (s t : Bool) → int_le (neg_ℤ (pos (2 ^ 127))) z ≡ s → int_lt z (pos (2 ^ 127)) ≡ t → (s && t) ≡ true → (neg_ℤ (pos (2 ^ 127)) ≤ℤ z) × (z <ℤ pos (2 ^ 127))
    by true true e f g = (omega (arith, ints), omega (arith, ints))
    by true false e f g = absurd (let n : false ≡ true = g in cc)
    by false t e f g = absurd (let n : false ≡ true = g in cc)

-- what lies between two mantissas is one
mantissa_between : IsConvex (λ z. IsTrue (is_mantissa z))
mantissa_between a b z p q l h = by (int_le (neg_ℤ (pos (2 ^ 127))) z) (int_lt z (pos (2 ^ 127))) refl refl (in_bounds a p) (in_bounds b q)
  where
    by : (s t : Bool) → int_le (neg_ℤ (pos (2 ^ 127))) z ≡ s → int_lt z (pos (2 ^ 127)) ≡ t → (neg_ℤ (pos (2 ^ 127)) ≤ℤ a) × (a <ℤ pos (2 ^ 127)) → (neg_ℤ (pos (2 ^ 127)) ≤ℤ b) × (b <ℤ pos (2 ^ 127)) → (s && t) ≡ true
    by true true e f u v = refl
    by true false e f u v = absurd (omega (arith, ints, u, v))
    by false t e f u v = absurd (omega (arith, ints, u, v))

-- and what lies between two that stand for a value stands for one
on_between : (line : Line) → IsConvex (IsOn line)
on_between Numbers a b z p q l h = tt
on_between Days a b z p q l h = (omega (arith, ints, p, l), omega (arith, ints, q, h))

-- ---- courses
-- all of a course at once
course_is : (down : Bool) (course : Course) → course_places down course ≡ option_map_or (stepped down course) (last_of down course) []
course_is true course = down_steps (place_on course) course.start.mant course.stop.mant course.step.mant
course_is false course = up_steps (place_on course) course.start.mant course.stop.mant course.step.mant

-- the places that the number of the last one stands for
pub course_with : (down : Bool) (course : Course) (last : ℕ) → last_of down course ≡ Some last → course_places down course ≡ stepped down course last
course_with down course last h = course_is down course ∙ ap (λ o. option_map_or (stepped down course) o []) h

-- as many as the number of the last one says
pub course_counted : (down : Bool) (course : Course) (last : ℕ) → last_of down course ≡ Some last → length (course_places down course) ≡ last + 1
course_counted down course last h =
    ap length (course_with down course last h)
    ∙ length-map-range_with_len (λ k. place_on course (after down course.start.mant course.step.mant k)) 0 (last + 1)

-- what holds of the ends and of all between them holds wherever the steps lead
stays : (P : ℤ → Type 0) → IsConvex P → (down : Bool) (course : Course) (last k : ℕ) → last_of down course ≡ Some last → k ≤ last
    → P course.start.mant → P course.stop.mant → P (after down course.start.mant course.step.mant k)
stays P convex true course last k h l s t =
    let b = between course.stop.mant course.start.mant course.step.mant last k h l in
    convex course.stop.mant course.start.mant (course.start.mant -ℤ (pos k *ℤ course.step.mant)) t s (omega (arith, ints, b)) (omega (arith, ints, b))
stays P convex false course last k h l s t =
    let b = between course.start.mant course.stop.mant course.step.mant last k h l in
    convex course.start.mant course.stop.mant (course.start.mant +ℤ (pos k *ℤ course.step.mant)) s t (omega (arith, ints, b)) (omega (arith, ints, b))

-- the count of the steps, up to one more than the limit
pub steps_capped : (steps last capped : ℕ) → steps ≡ last + 1 → capped ≡ min last MAX_SINGLE_LEFT_SIDES → capped + 1 ≡ min steps (MAX_SINGLE_LEFT_SIDES + 1)
steps_capped steps last capped h e = omega (arith, h, e)

-- ---- the walk over a course
module _ (down : Bool) (course : Course) where
  -- the number after k steps
  abbrev pub number_after : ℕ → Number
  number_after k = record { mant = after down course.start.mant course.step.mant k; scale = course.start.scale }

  pub start_is : course.start ≡ number_after 0
  start_is = λ i. record { mant = unmoved down course.start.mant course.step.mant i; scale = course.start.scale }

  pub first_is : place.At (value_on course.line course.start) ∷ [] ≡ stepped down course 0
  first_is = ap (λ n. place.At (value_on course.line n) ∷ []) start_is

  pub next_is : (k : ℕ) (n r : Number) → n ≡ number_after k → r ≡ record { mant = moved down n.mant course.step.mant; scale = n.scale } → r ≡ number_after (k + 1)
  next_is k n r h e =
      e
      ∙ ap (λ (m : Number). record { mant = moved down m.mant course.step.mant; scale = m.scale }) h
      ∙ (λ i. record { mant = moved_on down course.start.mant course.step.mant k i; scale = course.start.scale })

  pub stepped_on : (k : ℕ) (xs : List SinglePlace) (r : Number) (v : Value) → xs ≡ stepped down course k → r ≡ number_after (k + 1) → v ≡ value_on course.line r
      → xs ++ place.At v ∷ [] ≡ stepped down course (k + 1)
  stepped_on k xs r v h e w =
      (λ i. h i ++ place.At ((w ∙ ap (value_on course.line) e) i) ∷ [])
      ∙ sym (range_on (λ k. place.At (value_on course.line (number_after k))) (k + 1))

  module _ (last k : ℕ) (h : last_of down course ≡ Some last) (l : k < last) where
    pub next_stays : (n : Number) → IsTrue (is_mantissa course.start.mant) → IsTrue (is_mantissa course.stop.mant) → n ≡ number_after k → IsTrue (is_mantissa (moved down n.mant course.step.mant))
    next_stays n s t e =
        ap (λ (m : Number). is_mantissa (moved down m.mant course.step.mant)) e
        ∙ ap is_mantissa (moved_on down course.start.mant course.step.mant k)
        ∙ stays (λ z. IsTrue (is_mantissa z)) mantissa_between down course last (k + 1) h (omega arith) s t

    pub next_on : (r : Number) → HasEnds course → r ≡ number_after (k + 1) → IsOn course.line r.mant
    next_on r ends e =
        subst (λ (m : Number). IsOn course.line m.mant) (sym e)
        (stays (IsOn course.line) (on_between course.line) down course last (k + 1) h (omega arith) ends.0 ends.1)

-- ---- FOR with its values
-- the places of a FOR are those of the course that it takes, where it takes one
pub steps_are : (down : Bool) (start stop step : Value) → steps_of down start stop step ≡ option_map_or (course_places down) (course_of start stop step) []
steps_are down (value.Num start) (value.Num stop) (value.Num step) = refl
steps_are down (value.Num start) (value.Num stop) (value.Text t) = refl
steps_are down (value.Num start) (value.Num stop) (value.Date d) = refl
steps_are down (value.Num start) (value.Num stop) value.Null = refl
steps_are down (value.Num start) (value.Text t) step = refl
steps_are down (value.Num start) (value.Date d) step = refl
steps_are down (value.Num start) value.Null step = refl
steps_are down (value.Text t) stop step = refl
steps_are down (value.Date start) (value.Date stop) (value.Num step) = by (step.scale == 0)
  where
    by : (b : Bool) → (if b then course_places down (days start stop step) else []) ≡ option_map_or (course_places down) (if b then Some (days start stop step) else None) []
    by true = refl
    by false = refl
steps_are down (value.Date start) (value.Date stop) (value.Text t) = refl
steps_are down (value.Date start) (value.Date stop) (value.Date d) = refl
steps_are down (value.Date start) (value.Date stop) value.Null = refl
steps_are down (value.Date start) (value.Num n) step = refl
steps_are down (value.Date start) (value.Text t) step = refl
steps_are down (value.Date start) value.Null step = refl
steps_are down value.Null stop step = refl
