-- A value that is converted twice is as converted once.
use Rattle.std.proofs.Common.{◌≡◌, ℕ, ◌-◌, ◌^◌, Bool, true, false, ℤ, pos, ◌*ℤ◌, Ok, Err, refl, ap, ◌∙◌, subst, arith, if◌then◌else◌}
use Rattle.std.proofs.Math.IntN.{*ℤ-one}
use Rattle.std.proofs.Math.Nat.{sub_self}
use Rattle.std.proofs.lemmas.Bool.Decides.{nat_tests}
use Rattle.std.specs.Prelude.{nat_le}
use lib.IntN.{one}
use Rattle.mq_values.specs.Answers.{result_map}
use Rattle.mq_values.specs.Arithmetic.{in_range, rescaled, rounded}
use Rattle.mq_values.specs.Calendar.{text_of_day}
use Rattle.mq_values.specs.Convert.{cast_of, number_at}
use Rattle.mq_values.specs.Number.{Number, is_mantissa, mant_at, text_of_number}
use Rattle.mq_values.specs.declared.faults.ValueFault.TheVariants.{Overflow}
use Rattle.mq_values.specs.declared.limits.TheConstants.{MAX_SCALE}
use Rattle.mq_values.specs.declared.value.Kind.{Kind}
use Rattle.mq_values.specs.declared.value.Kind.TheVariants as kind
use Rattle.mq_values.specs.declared.value.Value.{Value}
use Rattle.mq_values.specs.declared.value.Value.TheVariants as value
use Rattle.mq_ir.specs.RowLaws.{ConvertsOnce}

one_factor : (z : ℤ) → z *ℤ pos 1 ≡ z
unfolding one
one_factor z = *ℤ-one z

abbrev number_of : ℤ → ℕ → Number
number_of m s = record { mant = m; scale = s }

-- a number that has its scale already
same_scale : (m : ℤ) (s : ℕ) → is_mantissa m ≡ true → rescaled (number_of m s) s ≡ Ok (number_of m s)
same_scale m s h =
    let t : nat_le s s ≡ true = grind (arith, nat_tests) in
    let k : mant_at s (number_of m s) ≡ m = ap (λ n. m *ℤ pos (10 ^ n)) (sub_self s) ∙ one_factor m in
    ap (λ b. in_range (if b then mant_at s (number_of m s) else rounded m (pos (10 ^ (s - s)))) s) t
    ∙ ap (λ z. in_range z s) k
    ∙ ap (λ b. if b then Ok (number_of m s) else Err Overflow) h

-- what a number at a scale is
at_scale : (n : Number) (s : ℕ) (w : Value) (P : Value → Type 0) → number_at n s ≡ Ok w →
    ((m : ℤ) → number_at (number_of m s) s ≡ Ok (value.Num (number_of m s)) → P (value.Num (number_of m s))) → P value.Null → P w
at_scale n s w P h num null = by (nat_le s MAX_SCALE) refl h
  where
    m : ℤ
    m = if nat_le n.scale s then mant_at s n else rounded n.mant (pos (10 ^ (n.scale - s)))

    by : (b : Bool) → nat_le s MAX_SCALE ≡ b → (if b then result_map value.Num (rescaled n s) else Ok value.Null) ≡ Ok w → P w
    by false t e = let f : value.Null ≡ w = cc in subst P f null
    by true t e = ranged (is_mantissa m) refl e
      where
        ranged : (c : Bool) → is_mantissa m ≡ c → result_map value.Num (if c then Ok (number_of m s) else Err Overflow) ≡ Ok w → P w
        ranged true k g =
            let f : value.Num (number_of m s) ≡ w = cc in
            subst P f (num m (ap (λ b. if b then result_map value.Num (rescaled (number_of m s) s) else Ok value.Null) t ∙ ap (result_map value.Num) (same_scale m s k)))
        ranged false k g = cc

pub converts_once : (v : Value) (k : Kind) → ConvertsOnce v k
converts_once (value.Num n) kind.Int w h = at_scale n 0 w (λ v. cast_of v kind.Int ≡ Ok v) h (λ m e. e) refl
converts_once (value.Num n) (kind.Decimal s) w h = at_scale n s w (λ v. cast_of v (kind.Decimal s) ≡ Ok v) h (λ m e. e) refl
converts_once (value.Num n) kind.Text w h = let e : value.Text (text_of_number n) ≡ w = cc in subst (λ v. cast_of v kind.Text ≡ Ok v) e refl
converts_once (value.Num n) kind.Date w h = let e : value.Null ≡ w = cc in subst (λ v. cast_of v kind.Date ≡ Ok v) e refl
converts_once (value.Text t) kind.Int w h = let e : value.Null ≡ w = cc in subst (λ v. cast_of v kind.Int ≡ Ok v) e refl
converts_once (value.Text t) (kind.Decimal s) w h = let e : value.Null ≡ w = cc in subst (λ v. cast_of v (kind.Decimal s) ≡ Ok v) e refl
converts_once (value.Text t) kind.Text w h = let e : value.Text t ≡ w = cc in subst (λ v. cast_of v kind.Text ≡ Ok v) e refl
converts_once (value.Text t) kind.Date w h = let e : value.Null ≡ w = cc in subst (λ v. cast_of v kind.Date ≡ Ok v) e refl
converts_once (value.Date d) kind.Int w h = let e : value.Null ≡ w = cc in subst (λ v. cast_of v kind.Int ≡ Ok v) e refl
converts_once (value.Date d) (kind.Decimal s) w h = let e : value.Null ≡ w = cc in subst (λ v. cast_of v (kind.Decimal s) ≡ Ok v) e refl
converts_once (value.Date d) kind.Text w h = let e : value.Text (text_of_day d) ≡ w = cc in subst (λ v. cast_of v kind.Text ≡ Ok v) e refl
converts_once (value.Date d) kind.Date w h = let e : value.Date d ≡ w = cc in subst (λ v. cast_of v kind.Date ≡ Ok v) e refl
converts_once value.Null k w h = let e : value.Null ≡ w = cc in subst (λ v. cast_of v k ≡ Ok v) e refl
