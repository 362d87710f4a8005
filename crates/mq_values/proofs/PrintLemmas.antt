-- Two different values of one kind print differently.
use Rattle.std.proofs.Common.{◌≡◌, ℕ, ◌<◌, Bool, true, false, ◌&&◌, eqb, IsTrue, List, [], ◌∷◌, ◌++◌, length, refl, sym, ap, subst, ◌∙◌, append_assoc, arith}
use Rattle.std.specs.Prelude.{◌==◌, if◌then◌else◌}
use Rattle.std.specs.List.{flat_map}
use Rattle.std.specs.Cmp.{first_so, second_so, unsigned_Decides}
use Rattle.mq_values.specs.Number.{Number, is_mantissa, text_of_number}
use Rattle.mq_values.specs.Laws.{is_of}
use Rattle.mq_values.specs.Bytes.{QUOTE}
use Rattle.mq_values.specs.Print.{doubled, quoted, printed}
use Rattle.mq_values.specs.declared.value.Kind.{Kind}
use Rattle.mq_values.specs.declared.value.Kind.TheVariants as kind
use Rattle.mq_values.specs.declared.value.Value.{Value}
use Rattle.mq_values.specs.declared.value.Value.TheVariants as value
use Rattle.mq_values.proofs.NumberApartLemmas.{apart}
use Rattle.mq_values.specs.Calendar.{text_of_day}
use Rattle.mq_values.specs.CalendarLaws.{days_print_apart}
use Rattle.mq_values.proofs.DayTextLemmas.{length-day}
use Rattle.mq_values.proofs.NumberTextLemmas.{AllMarks, marks-number, mantissa_small}

-- a text's bytes with the quotes doubled, and the closing quote
abbrev body : List ℕ → List ℕ
body [] = QUOTE ∷ []
body (x ∷ xs) = doubled x ++ body xs

in_body : (xs : List ℕ) → flat_map doubled xs ++ QUOTE ∷ [] ≡ body xs
in_body [] = refl
in_body (x ∷ xs) = append_assoc (doubled x) (flat_map doubled xs) (QUOTE ∷ []) ∙ ap (λ ys. doubled x ++ ys) (in_body xs)

body_long : (xs : List ℕ) → 0 < length (body xs)
body_long [] = omega arith
body_long (x ∷ xs) = by (x == QUOTE)
  where
    by : (b : Bool) → 0 < length ((if b then x ∷ x ∷ [] else x ∷ []) ++ body xs)
    by true = omega arith
    by false = omega arith

-- a first byte, which is the closing quote alone only at the end
end_or_more : (y : ℕ) (ys : List ℕ) → QUOTE ∷ [] ≡ doubled y ++ body ys → ⊥
end_or_more y ys = by (y == QUOTE)
  where
    by : (b : Bool) → QUOTE ∷ [] ≡ (if b then y ∷ y ∷ [] else y ∷ []) ++ body ys → ⊥
    by true e = cc
    by false e = omega (arith, body_long ys, ap length e)

heads : (x y : ℕ) (us vs : List ℕ) → doubled x ++ us ≡ doubled y ++ vs → (x ≡ y) × (us ≡ vs)
heads x y us vs = by (x == QUOTE) (y == QUOTE) refl refl
  where
    by : (b c : Bool) → (x == QUOTE) ≡ b → (y == QUOTE) ≡ c → (if b then x ∷ x ∷ [] else x ∷ []) ++ us ≡ (if c then y ∷ y ∷ [] else y ∷ []) ++ vs → (x ≡ y) × (us ≡ vs)
    by true true f g e = (cc, cc)
    by true false f g e = let h : true ≡ false = cc in (cc, cc)
    by false true f g e = let h : true ≡ false = cc in (cc, cc)
    by false false f g e = (cc, cc)

same_body : (xs ys : List ℕ) → body xs ≡ body ys → xs ≡ ys
same_body [] [] e = refl
same_body [] (y ∷ ys) e = absurd (end_or_more y ys e)
same_body (x ∷ xs) [] e = absurd (end_or_more x xs (sym e))
same_body (x ∷ xs) (y ∷ ys) e =
    let p = heads x y (body xs) (body ys) e in
    let f : xs ≡ ys = same_body xs ys p.1 in
    λ i. p.0 i ∷ f i

texts_apart : (xs ys : List ℕ) → quoted xs ≡ quoted ys → xs ≡ ys
texts_apart xs ys e =
    let f : flat_map doubled xs ++ QUOTE ∷ [] ≡ flat_map doubled ys ++ QUOTE ∷ [] = cc in
    same_body xs ys (sym (in_body xs) ∙ f ∙ in_body ys)

numbers_apart : (a b : Number) (s : ℕ) → IsTrue (is_mantissa a.mant && eqb a.scale s) → IsTrue (is_mantissa b.mant && eqb b.scale s) → text_of_number a ≡ text_of_number b → a ≡ b
numbers_apart a b s p q e =
    let x : a.scale ≡ s = (unsigned_Decides a.scale s).0 (second_so (is_mantissa a.mant) (eqb a.scale s) p) in
    let y : b.scale ≡ s = (unsigned_Decides b.scale s).0 (second_so (is_mantissa b.mant) (eqb b.scale s) q) in
    apart a b (first_so (is_mantissa a.mant) (eqb a.scale s) p) (first_so (is_mantissa b.mant) (eqb b.scale s) q) (x ∙ sym y) e

-- 'N' is no mark of a number
no_null : (n : Number) (s : ℕ) → IsTrue (is_mantissa n.mant && eqb n.scale s) → text_of_number n ≡ printed value.Null → ⊥
no_null n s p e =
    let m = marks-number n (mantissa_small n.mant (first_so (is_mantissa n.mant) (eqb n.scale s) p)) in
    let h : AllMarks (printed value.Null) = subst AllMarks e m in
    cc

-- a date's text is longer
no_day_is_null : (d : ℕ) → text_of_day d ≡ printed value.Null → ⊥
no_day_is_null d e = omega (arith, ap length e, length-day d)

pub values_apart : (k : Kind) (a b : Value) → IsTrue (is_of k a) → IsTrue (is_of k b) → printed a ≡ printed b → a ≡ b
values_apart kind.Int (value.Num a) (value.Num b) p q e = ap value.Num (numbers_apart a b 0 p q e)
values_apart (kind.Decimal s) (value.Num a) (value.Num b) p q e = ap value.Num (numbers_apart a b s p q e)
values_apart kind.Text (value.Num a) b p q e = cc
values_apart kind.Date (value.Num a) b p q e = cc
values_apart kind.Int (value.Text a) b p q e = cc
values_apart (kind.Decimal s) (value.Text a) b p q e = cc
values_apart kind.Text (value.Text a) (value.Text b) p q e = ap value.Text (texts_apart a b e)
values_apart kind.Date (value.Text a) b p q e = cc
values_apart kind.Int (value.Date a) b p q e = cc
values_apart (kind.Decimal s) (value.Date a) b p q e = cc
values_apart kind.Text (value.Date a) b p q e = cc
values_apart kind.Date (value.Date a) (value.Date b) p q e = ap value.Date (days_print_apart a b p q e)
values_apart kind.Int a (value.Text b) p q e = cc
values_apart (kind.Decimal s) a (value.Text b) p q e = cc
values_apart kind.Text a (value.Num b) p q e = cc
values_apart kind.Date a (value.Num b) p q e = cc
values_apart kind.Date a (value.Text b) p q e = cc
values_apart kind.Int a (value.Date b) p q e = cc
values_apart (kind.Decimal s) a (value.Date b) p q e = cc
values_apart kind.Text a (value.Date b) p q e = cc
values_apart kind.Int (value.Num a) value.Null p q e = absurd (no_null a 0 p e)
values_apart (kind.Decimal s) (value.Num a) value.Null p q e = absurd (no_null a s p e)
values_apart kind.Text (value.Text a) value.Null p q e = cc
values_apart kind.Date (value.Date a) value.Null p q e = absurd (no_day_is_null a e)
values_apart kind.Int value.Null (value.Num b) p q e = absurd (no_null b 0 q (sym e))
values_apart (kind.Decimal s) value.Null (value.Num b) p q e = absurd (no_null b s q (sym e))
values_apart kind.Text value.Null (value.Text b) p q e = cc
values_apart kind.Date value.Null (value.Date b) p q e = absurd (no_day_is_null b (sym e))
values_apart k value.Null value.Null p q e = refl
