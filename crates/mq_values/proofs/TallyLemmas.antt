-- An average of more values than an INT can count.
use Rattle.std.proofs.Common.{◌≡◌, ℕ, ◌+◌, ◌^◌, ◌≤◌, ℤ, pos, ◌+ℤ◌, max, Bool, true, false, List, [], ◌∷◌, length, refl, ap, ◌∙◌, arith, ◌&&◌}
use Rattle.std.specs.Prelude.{Some, Result, Ok, Err, if◌then◌else◌}
use Rattle.std.proofs.lemmas.Int.{ints}
use Rattle.mq_values.specs.Answers.{result_map, result_and_then}
use Rattle.mq_values.specs.Number.{Number, is_mantissa, mant_at}
use Rattle.mq_values.specs.Arithmetic.{in_range, sum_of, quotient_of}
use Rattle.mq_values.specs.Aggregate.{sum_from, numbers}
use Rattle.mq_values.specs.Tally.{outcome}
use Rattle.mq_values.specs.declared.faults.ValueFault.{ValueFault}
use Rattle.mq_values.specs.declared.faults.ValueFault.TheVariants.{Overflow}
use Rattle.mq_values.specs.declared.tally.Tally.TheVariants as tally
use Rattle.mq_values.specs.declared.value.Value.{Value}
use Rattle.mq_values.specs.declared.value.Value.TheVariants as value
use Rattle.mq_values.proofs.RangeLemmas.{unfit_mantissa}

then_then : {A B C E : Type 0} (r : Result A E) (f : A → Result B E) (g : B → Result C E) → result_and_then (result_and_then r f) g ≡ result_and_then r (λ x. result_and_then (f x) g)
then_then (Ok x) f g = refl
then_then (Err e) f g = refl

pub too_many : (k : ℕ) → 2 ^ 127 ≤ k → is_mantissa (pos k) ≡ false
too_many k h = unfit_mantissa (pos k) (λ f. omega (arith, ints))

module _ {A : Type 0} (f : Number → Result A ValueFault) (out : (n : Number) → f n ≡ Err Overflow) where
  ranged : (b : Bool) (m : ℤ) (s : ℕ) → result_and_then {E = ValueFault} (if b then Ok (record { mant = m; scale = s }) else Err Overflow) f ≡ Err Overflow
  ranged true m s = out (record { mant = m; scale = s })
  ranged false m s = refl

  both_ranged : (b : Bool) (m : ℤ) (s : ℕ) → result_and_then {E = ValueFault} (if b then in_range m s else Err Overflow) f ≡ Err Overflow
  both_ranged true m s = ranged (is_mantissa m) m s
  both_ranged false m s = refl

  sum_out : (a b : Number) → result_and_then (sum_of a b) f ≡ Err Overflow
  sum_out a b =
      let s = max a.scale b.scale in
      both_ranged (is_mantissa (mant_at s a) && is_mantissa (mant_at s b)) (mant_at s a +ℤ mant_at s b) s

-- a sum has no fault but OVERFLOW, so what follows it with OVERFLOW is OVERFLOW in any case
sums_out : {A : Type 0} (f : Number → Result A ValueFault) → ((n : Number) → f n ≡ Err Overflow) → (n : Number) (ms : List Number) → result_and_then (sum_from n ms) f ≡ Err Overflow
sums_out f out n [] = out n
sums_out f out n (m ∷ ms) = then_then (sum_of n m) (λ s. sum_from s ms) f ∙ sum_out (λ s. result_and_then (sum_from s ms) f) (λ s. sums_out f out s ms) n m

-- what follows the sum of an average
abbrev divided : ℕ → Number → Result Value ValueFault
divided k s = result_and_then (in_range (pos k) 0) (λ c. result_map value.Num (quotient_of s c))

divided_out : (k : ℕ) → 2 ^ 127 ≤ k → (s : Number) → divided k s ≡ Err Overflow
divided_out k h s = ap (λ b. result_and_then {E = ValueFault} (if b then Ok (record { mant = pos k; scale = 0 }) else Err Overflow) (λ c. result_map value.Num (quotient_of s c))) (too_many k h)

pub average_out : (n s : Number) (k : ℕ) → 2 ^ 127 ≤ k → (vs : List Value) → outcome (tally.Avg (Some (s, k))) (value.Num n ∷ vs) ≡ Err Overflow
average_out n s k h vs =
    let j = k + length (n ∷ numbers vs) in
    sums_out (divided j) (divided_out j (omega arith)) s (n ∷ numbers vs)
