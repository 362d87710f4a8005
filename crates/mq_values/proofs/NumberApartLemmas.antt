-- Numbers of one scale print apart.
use Rattle.std.proofs.Common.{◌≡◌, ℕ, zero, suc, ◌+◌, ◌*◌, ◌/◌, ◌%◌, ◌^◌, ◌<◌, ℤ, pos, negsuc, List, [], ◌∷◌, ◌++◌, length, refl, sym, ap, ◌∙◌, arith, append_assoc, append-nil, length-append, unsigned_abs}
use Rattle.std.proofs.lemmas.Fmt.{decimal_is_IsNumeral_wide, decimal_by_steps_wide}
use Rattle.std.proofs.Math.Nat.{div-add-mod', div-le_self, mod-lt, pow-suc}
use Rattle.std.specs.Fmt.{decimal}
use Rattle.std.specs.Str.Parse.{digits_value}
use Rattle.mq_values.specs.DigitLaws.{fixed_apart, same_ends}
use Rattle.mq_values.specs.Number.{fixed_digits, fraction_text, sign_text, text_of_number}
use Rattle.mq_values.specs.NumberOrder.{ten_pos}
use Rattle.mq_values.specs.NumberLaws.{PrintsApart}
use Rattle.mq_values.proofs.NumberTextLemmas.{length-fixed, mantissa_small}

decimal_apart : (m n : ℕ) → m < 10 ^ 64 → n < 10 ^ 64 → decimal m ≡ decimal n → m ≡ n
decimal_apart m n hm hn h = sym (decimal_is_IsNumeral_wide m hm).1 ∙ ap (digits_value 10) h ∙ (decimal_is_IsNumeral_wide n hn).1

fraction_length : (k m n : ℕ) → length (fraction_text k m) ≡ length (fraction_text k n)
fraction_length zero m n = refl
fraction_length (suc k) m n = omega (arith, length-fixed (suc k) m, length-fixed (suc k) n)

fraction_apart : (k m n : ℕ) → m < 10 ^ k → n < 10 ^ k → fraction_text k m ≡ fraction_text k n → m ≡ n
fraction_apart zero m n hm hn h = omega arith
fraction_apart (suc k) m n hm hn h = fixed_apart (suc k) m n hm hn (let e : fixed_digits (suc k) m ≡ fixed_digits (suc k) n = cc in e)

-- digits do not begin with a sign
abbrev NoSign : List ℕ → Type 0
NoSign ds = (t rest : List ℕ) → ds ++ rest ≡ 45 ∷ t → ⊥

no_sign : (n : ℕ) → n < 10 ^ 64 → NoSign (decimal n)
no_sign = decimal_by_steps_wide (λ n ds. NoSign ds) (λ n h t rest e. let f : 48 + n ≡ 45 = cc in omega arith) (λ n ds h p t rest e. p t ((48 + n % 10) ∷ rest) (sym (append_assoc ds ((48 + n % 10) ∷ []) rest) ∙ e))

whole : (a b u : ℕ) → a / u ≡ b / u → a % u ≡ b % u → a ≡ b
whole a b u q r = sym (div-add-mod' a u) ∙ (λ i. q i * u + r i) ∙ div-add-mod' b u

abbrev front : ℤ → ℕ → List ℕ
front z u = sign_text z ++ decimal (unsigned_abs z / u)

-- numbers that print one sign and whole part, and have one rest
front_apart : (m n : ℤ) (u : ℕ) → unsigned_abs m < 10 ^ 64 → unsigned_abs n < 10 ^ 64 → unsigned_abs m % u ≡ unsigned_abs n % u → front m u ≡ front n u → m ≡ n
front_apart (pos a) (pos b) u hm hn r h =
    let q = decimal_apart (a / u) (b / u) (omega (arith, div-le_self a u)) (omega (arith, div-le_self b u)) h in
    ap pos (whole a b u q r)
front_apart (pos a) (negsuc b) u hm hn r h = absurd (no_sign (a / u) (omega (arith, div-le_self a u)) (decimal (suc b / u)) [] (append-nil (decimal (a / u)) ∙ h))
front_apart (negsuc a) (pos b) u hm hn r h = absurd (no_sign (b / u) (omega (arith, div-le_self b u)) (decimal (suc a / u)) [] (append-nil (decimal (b / u)) ∙ sym h))
front_apart (negsuc a) (negsuc b) u hm hn r h =
    let digits : decimal (suc a / u) ≡ decimal (suc b / u) = cc in
    let q = decimal_apart (suc a / u) (suc b / u) (omega (arith, div-le_self (suc a) u)) (omega (arith, div-le_self (suc b) u)) digits in
    let e : suc a ≡ suc b = whole (suc a) (suc b) u q r in
    ap (λ n. negsuc n) (omega arith)

same_mant : (m n : ℤ) (s : ℕ) → unsigned_abs m < 10 ^ 64 → unsigned_abs n < 10 ^ 64 → text_of_number (record { mant = m; scale = s }) ≡ text_of_number (record { mant = n; scale = s }) → m ≡ n
same_mant m n s hm hn h =
    let u = 10 ^ s in
    let r = unsigned_abs m % u in
    let t = unsigned_abs n % u in
    let p = same_ends (front m u) (front n u) (fraction_text s r) (fraction_text s t) (fraction_length s r t) h in
    let rest : r ≡ t = fraction_apart s r t (mod-lt (unsigned_abs m) (ten_pos s)) (mod-lt (unsigned_abs n) (ten_pos s)) p.1 in
    front_apart m n u hm hn rest p.0

pub apart : PrintsApart
apart a b ra rb e h =
    let at : text_of_number (record { mant = a.mant; scale = a.scale }) ≡ text_of_number (record { mant = b.mant; scale = a.scale }) = h ∙ (λ i. text_of_number (record { mant = b.mant; scale = sym e i })) in
    let mants = same_mant a.mant b.mant a.scale (mantissa_small a.mant ra) (mantissa_small b.mant rb) at in
    λ i. record { mant = mants i; scale = e i }
