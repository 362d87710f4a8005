-- The last steps of the arithmetic, from what the code's calls gave to the definitions.
use Rattle.std.proofs.Common.{◌≡◌, ◌≢◌, ℕ, suc, ◌+◌, ◌-◌, ◌*◌, ◌^◌, ◌<◌, ◌≤◌, max, min, ℤ, pos, negsuc, neg_ℤ, ◌*ℤ◌, Bool, ◌&&◌, true, false, refl, sym, ap, subst, ◌∙◌, arith, FitsSigned, Some, Result, Ok, Err, to_z, of_z, int_eq, if◌then◌else◌}
use Rattle.std.specs.Int.{w128}
use Rattle.std.specs.Cmp.{signed_Decides}
use Rattle.std.proofs.lemmas.Int.{ints, to_z-of_z}
use Rattle.std.proofs.Math.Nat.{div-lt_iff_lt-mul, le-mul_of_pos_right}
use Rattle.mq_values.specs.Number.{Number, is_mantissa, fitting, mant_at}
use Rattle.mq_values.specs.NumberOrder.{ten_pos}
use Rattle.mq_values.specs.Arithmetic.{in_range, half_up, rounded, product_of, quotient_of, quotient_scale, dividend_of}
use Rattle.mq_values.proofs.RangeLemmas.{Fitting_some, Fitting_true, fits_mantissa, unfit_mantissa}
use Rattle.mq_values.specs.declared.faults.ValueFault.{ValueFault}
use Rattle.mq_values.specs.declared.faults.ValueFault.TheVariants.{Overflow}

not_zero : (z : ℤ) → z ≢ pos 0 → int_eq z (pos 0) ≡ false
not_zero z ne = by (int_eq z (pos 0)) refl
  where
    by : (s : Bool) → int_eq z (pos 0) ≡ s → s ≡ false
    by true e = absurd (ne ((signed_Decides z (pos 0)).0 e))
    by false e = refl

quotient_is : (a b : Number) → b.mant ≢ pos 0 → is_mantissa (dividend_of a b) ≡ true → quotient_of a b ≡ in_range (rounded (dividend_of a b) b.mant) (quotient_scale a.scale b.scale)
quotient_is a b ne t = rw (not_zero b.mant ne, t) refl

pub quotient_step : (a b : Number) (d m : ℤ) (r s t : ℕ) → r ≡ quotient_scale a.scale b.scale → s ≡ b.scale → t ≡ a.scale → m ≡ b.mant → m ≢ pos 0 → FitsSigned w128 m → Some d ≡ fitting (a.mant *ℤ pos (10 ^ (r + s - t))) → in_range (rounded (to_z w128 (of_z w128 d)) (to_z w128 (of_z w128 m))) r ≡ quotient_of a b
quotient_step a b d m r s t er es et em ne f h =
    let z = a.mant *ℤ pos (10 ^ (r + s - t)) in
    let k = Fitting_some d z h in
    let brought : z ≡ dividend_of a b = λ i. a.mant *ℤ pos (10 ^ (er i + es i - et i)) in
    let dividend : to_z w128 (of_z w128 d) ≡ dividend_of a b = to_z-of_z w128 d k.1 ∙ k.0 ∙ brought in
    let divisor : to_z w128 (of_z w128 m) ≡ b.mant = to_z-of_z w128 m f ∙ em in
    (λ i. in_range (rounded (dividend i) (divisor i)) (er i))
    ∙ sym (quotient_is a b (λ e. ne (em ∙ e)) (ap is_mantissa (sym brought) ∙ Fitting_true d z h))

-- rounding a quotient makes no number larger
pub half_up-le : (n d : ℕ) → 0 < d → half_up n d ≤ n
half_up-le n d p =
    let more : n ≤ n * d = le-mul_of_pos_right n p in
    let below : 2 * n + d < suc n * (2 * d) = omega arith in
    let less : half_up n d < suc n = (div-lt_iff_lt-mul {k = 2 * d} {x = 2 * n + d} {y = suc n} (omega arith)).1 below in
    omega arith

negated : (q n : ℕ) → q ≤ suc n → FitsSigned w128 (negsuc n) → FitsSigned w128 (neg_ℤ (pos q))
negated q n l f = omega (arith, ints)

rounded_mantissa : (z : ℤ) (d : ℕ) → 0 < d → FitsSigned w128 z → is_mantissa (rounded z (pos d)) ≡ true
rounded_mantissa (pos n) d p f = let l = half_up-le n d p in fits_mantissa (pos (half_up n d)) (omega (arith, ints))
rounded_mantissa (negsuc n) d p f = fits_mantissa (neg_ℤ (pos (half_up (suc n) d))) (negated (half_up (suc n) d) n (half_up-le (suc n) d p) f)

product_is : (a b : Number) → is_mantissa (a.mant *ℤ b.mant) ≡ true → product_of a b ≡ Ok (record { mant = rounded (a.mant *ℤ b.mant) (pos (10 ^ (a.scale + b.scale - 12))); scale = min (a.scale + b.scale) 12 })
product_is a b t = rw (t) refl

in_range_is : (z : ℤ) (s : ℕ) → is_mantissa z ≡ true → in_range z s ≡ Ok (record { mant = z; scale = s })
in_range_is z s t = rw (t) refl

pub product_step : (a b : Number) (m n x t : ℤ) (s : ℕ) → s ≡ a.scale + b.scale → 12 < s → m ≡ a.mant → n ≡ b.mant → FitsSigned w128 m → FitsSigned w128 n → t ≡ pos (10 ^ (s - 12)) → FitsSigned w128 t → Some x ≡ fitting (to_z w128 (of_z w128 m) *ℤ to_z w128 (of_z w128 n)) → in_range (rounded (to_z w128 (of_z w128 x)) (to_z w128 (of_z w128 t))) 12 ≡ product_of a b
product_step a b m n x t s es l em en f g et ft h =
    let left : to_z w128 (of_z w128 m) ≡ a.mant = to_z-of_z w128 m f ∙ em in
    let right : to_z w128 (of_z w128 n) ≡ b.mant = to_z-of_z w128 n g ∙ en in
    let k = Fitting_some x (to_z w128 (of_z w128 m) *ℤ to_z w128 (of_z w128 n)) h in
    let is : x ≡ a.mant *ℤ b.mant = k.0 ∙ (λ i. left i *ℤ right i) in
    let fits : FitsSigned w128 (a.mant *ℤ b.mant) = subst (FitsSigned w128) is k.1 in
    let exact : to_z w128 (of_z w128 x) ≡ a.mant *ℤ b.mant = to_z-of_z w128 x k.1 ∙ is in
    let unit : to_z w128 (of_z w128 t) ≡ pos (10 ^ (a.scale + b.scale - 12)) = to_z-of_z w128 t ft ∙ et ∙ (λ i. pos (10 ^ (es i - 12))) in
    let scale : 12 ≡ min (a.scale + b.scale) 12 = omega arith in
    let nearest = rounded (a.mant *ℤ b.mant) (pos (10 ^ (a.scale + b.scale - 12))) in
    let same : Ok (record { mant = nearest; scale = 12 }) ≡ Ok (record { mant = nearest; scale = min (a.scale + b.scale) 12 }) = λ i. Ok (record { mant = nearest; scale = scale i }) in
    (λ i. in_range (rounded (exact i) (unit i)) 12)
    ∙ in_range_is nearest 12 (rounded_mantissa (a.mant *ℤ b.mant) (10 ^ (a.scale + b.scale - 12)) (ten_pos (a.scale + b.scale - 12)) fits)
    ∙ same ∙ sym (product_is a b (fits_mantissa (a.mant *ℤ b.mant) fits))

-- two numbers of which both mantissas are brought to the larger scale and put together there, as `sum_of` and `difference_of` are
abbrev combined : (ℤ → ℤ → ℤ) → Number → Number → Result Number ValueFault
combined op a b =
    let s = max a.scale b.scale in
    if is_mantissa (mant_at s a) && is_mantissa (mant_at s b) then in_range (op (mant_at s a) (mant_at s b)) s else Err Overflow

combined_is : (op : ℤ → ℤ → ℤ) (a b : Number) → is_mantissa (mant_at (max a.scale b.scale) a) ≡ true → is_mantissa (mant_at (max a.scale b.scale) b) ≡ true → combined op a b ≡ in_range (op (mant_at (max a.scale b.scale) a) (mant_at (max a.scale b.scale) b)) (max a.scale b.scale)
combined_is op a b p q = rw (p, q) refl

-- what the two calls of `with_zeros` gave
pub record Brought (a b : Number) (m n : ℤ) (s i j : ℕ) : Type 0 where
  pub scale : s ≡ max a.scale b.scale
  pub left_scale : i ≡ a.scale
  pub right_scale : j ≡ b.scale
  pub left : Some m ≡ fitting (a.mant *ℤ pos (10 ^ (s - i)))
  pub right : Some n ≡ fitting (b.mant *ℤ pos (10 ^ (s - j)))

brought_is : (op : ℤ → ℤ → ℤ) (a b : Number) (m n : ℤ) (s i j : ℕ) → Brought a b m n s i j → combined op a b ≡ in_range (op (to_z w128 (of_z w128 m)) (to_z w128 (of_z w128 n))) s
brought_is op a b m n s i j h =
    let l = Fitting_some m (a.mant *ℤ pos (10 ^ (s - i))) h.left in
    let r = Fitting_some n (b.mant *ℤ pos (10 ^ (s - j))) h.right in
    let left_at : a.mant *ℤ pos (10 ^ (s - i)) ≡ mant_at (max a.scale b.scale) a = λ t. a.mant *ℤ pos (10 ^ (h.scale t - h.left_scale t)) in
    let right_at : b.mant *ℤ pos (10 ^ (s - j)) ≡ mant_at (max a.scale b.scale) b = λ t. b.mant *ℤ pos (10 ^ (h.scale t - h.right_scale t)) in
    let left : to_z w128 (of_z w128 m) ≡ mant_at (max a.scale b.scale) a = to_z-of_z w128 m l.1 ∙ l.0 ∙ left_at in
    let right : to_z w128 (of_z w128 n) ≡ mant_at (max a.scale b.scale) b = to_z-of_z w128 n r.1 ∙ r.0 ∙ right_at in
    combined_is op a b (ap is_mantissa (sym left_at) ∙ Fitting_true m (a.mant *ℤ pos (10 ^ (s - i))) h.left) (ap is_mantissa (sym right_at) ∙ Fitting_true n (b.mant *ℤ pos (10 ^ (s - j))) h.right)
    ∙ (λ t. in_range (op (sym left t) (sym right t)) (sym h.scale t))

pub combined_some : (op : ℤ → ℤ → ℤ) (a b : Number) (m n x : ℤ) (s i j : ℕ) → Brought a b m n s i j → FitsSigned w128 (op (to_z w128 (of_z w128 m)) (to_z w128 (of_z w128 n))) → x ≡ op (to_z w128 (of_z w128 m)) (to_z w128 (of_z w128 n)) → Ok (record { mant = to_z w128 (of_z w128 x); scale = s }) ≡ combined op a b
combined_some op a b m n x s i j h f e =
    let d = op (to_z w128 (of_z w128 m)) (to_z w128 (of_z w128 n)) in
    let exact : to_z w128 (of_z w128 x) ≡ d = to_z-of_z w128 x (subst (FitsSigned w128) (sym e) f) ∙ e in
    (λ t. Ok (record { mant = exact t; scale = s })) ∙ sym (in_range_is d s (fits_mantissa d f)) ∙ sym (brought_is op a b m n s i j h)

pub combined_none : (op : ℤ → ℤ → ℤ) (a b : Number) (m n : ℤ) (s i j : ℕ) → Brought a b m n s i j → (FitsSigned w128 (op (to_z w128 (of_z w128 m)) (to_z w128 (of_z w128 n))) → ⊥) → Err Overflow ≡ combined op a b
combined_none op a b m n s i j h f =
    let d = op (to_z w128 (of_z w128 m)) (to_z w128 (of_z w128 n)) in
    sym (out_of_range d s (unfit_mantissa d f)) ∙ sym (brought_is op a b m n s i j h)
  where
    out_of_range : (z : ℤ) (s : ℕ) → is_mantissa z ≡ false → in_range z s ≡ Err Overflow
    out_of_range z s t = rw (t) refl
