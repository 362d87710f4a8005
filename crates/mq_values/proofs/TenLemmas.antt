-- The table of the powers of ten.
use Rattle.std.proofs.Common.{◌≡◌, ℕ, zero, suc, ◌+◌, ◌^◌, ◌<◌, ◌≤◌, Bool, true, ◌&&◌, List, [], ◌∷◌, length, get_or, ℤ, pos, ◌<ℤ◌, FitsSigned, refl, sym, ap, ◌∙◌, arith, to_z, of_z}
use Rattle.std.proofs.lemmas.Int.{to_z-of_z, ints}
use Rattle.std.proofs.Math.Nat.{pow-le-pow_right}
use Rattle.std.specs.Int.{w128}
use Rattle.std.specs.Ordering.{int_eq}
use Rattle.std.specs.Cmp.{signed_Decides, first_so, second_so}
use Rattle.mq_values.specs.NumberOrder.{ten_pos}
use Rattle.mq_values.specs.declared.number.TheConstants.{TENS}

-- the list's numbers are the powers of ten from 10 ^ j on
abbrev are_tens_from : ℕ → List ℤ → Bool
are_tens_from j [] = true
are_tens_from j (x ∷ xs) = int_eq x (pos (10 ^ j)) && are_tens_from (suc j) xs

tens_from : (xs : List ℤ) (j i : ℕ) → are_tens_from j xs ≡ true → i < length xs → get_or xs i (pos 0) ≡ pos (10 ^ (j + i))
tens_from [] j i t h = absurd (omega arith)
tens_from (x ∷ xs) j zero t h =
    let e : j + 0 ≡ j = omega arith in
    (signed_Decides x (pos (10 ^ j))).0 (first_so (int_eq x (pos (10 ^ j))) (are_tens_from (suc j) xs) t) ∙ ap (λ n. pos (10 ^ n)) (sym e)
tens_from (x ∷ xs) j (suc i) t h =
    let e : suc j + i ≡ j + suc i = omega arith in
    tens_from xs (suc j) i (second_so (int_eq x (pos (10 ^ j))) (are_tens_from (suc j) xs) t) (omega arith) ∙ ap (λ n. pos (10 ^ n)) e

TENS_at : (k : ℕ) → k ≤ 24 → get_or TENS k (pos 0) ≡ pos (10 ^ k)
TENS_at k h = let e : 0 + k ≡ k = omega arith in tens_from TENS 0 k refl (omega arith) ∙ ap (λ n. pos (10 ^ n)) e

-- a power of ten that the table has fits 128 bits
pub ten_fits : (k : ℕ) → k ≤ 24 → FitsSigned w128 (pos (10 ^ k))
ten_fits k h = let p : 10 ^ k ≤ 10 ^ 24 = pow-le-pow_right (omega arith) h in omega (arith, ints)

pub TENS_read : (k : ℕ) → k ≤ 24 → to_z w128 (of_z w128 (get_or TENS k (pos 0))) ≡ pos (10 ^ k)
TENS_read k h = ap (λ z. to_z w128 (of_z w128 z)) (TENS_at k h) ∙ to_z-of_z w128 (pos (10 ^ k)) (ten_fits k h)

pub TENS_positive : (k : ℕ) → k ≤ 24 → pos 0 <ℤ to_z w128 (of_z w128 (get_or TENS k (pos 0)))
TENS_positive k h = rw (TENS_read k h) (let p = ten_pos k in omega (arith, ints))
