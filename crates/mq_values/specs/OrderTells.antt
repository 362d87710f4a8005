-- What the order of values tells: which are the same, and how they compare.
use Rattle.std.proofs.Common.{◌≡◌, ◌≢◌, ℕ, eqb, is_eq, IfSome, List, [], ◌∷◌, Ordering, Less, Equal, Greater, refl, ap, ◌∙◌}
use Rattle.std.specs.Ordering.{nat_cmp, ordering_then, int_eq}
use Rattle.std.specs.Cmp.{tied_itself, unsigned_ties, first_so, second_so, signed_Decides, unsigned_Decides}
use Rattle.std.specs.Cmp.Lexicographic.{texts_ties, bytes_decides}
use Rattle.mq_values.specs.Number.{Number, cmp_number, cmp_worth}
use Rattle.mq_values.specs.NumberOrder.{equal_together}
use Rattle.mq_values.specs.Order.{cmp_text, cmp_value, cmp_key, compared}
use Rattle.mq_values.specs.OrderLaws.{value_total, key_total}
use Rattle.mq_values.specs.declared.value.Value.{Value}
use Rattle.mq_values.specs.declared.value.Value.TheVariants as value

pub value_itself : (a : Value) → cmp_value a a ≡ Equal
value_itself = tied_itself value_total

pub key_itself : (a : List Value) → cmp_key a a ≡ Equal
key_itself = tied_itself key_total

-- what the order of numbers finds equal is one number
pub same_number : (a b : Number) → cmp_number a b ≡ Equal → a ≡ b
same_number a b h =
    let e = equal_together a b ∙ ap is_eq h in
    let m : a.mant ≡ b.mant = (signed_Decides a.mant b.mant).0 (first_so (int_eq a.mant b.mant) (eqb a.scale b.scale) e) in
    let s : a.scale ≡ b.scale = (unsigned_Decides a.scale b.scale).0 (second_so (int_eq a.mant b.mant) (eqb a.scale b.scale) e) in
    λ i. record { mant = m i; scale = s i }

pub same_text : (a b : List ℕ) → cmp_text a b ≡ Equal → a ≡ b
same_text a b h = (bytes_decides a b).0 (texts_ties a b ∙ ap is_eq h)

pub same_day : (a b : ℕ) → nat_cmp a b ≡ Equal → a ≡ b
same_day a b h = (unsigned_Decides a b).0 (unsigned_ties a b ∙ ap is_eq h)

pub same_value : (a b : Value) → cmp_value a b ≡ Equal → a ≡ b
same_value (value.Num a) (value.Num b) h = ap value.Num (same_number a b h)
same_value (value.Num a) (value.Text b) h = cc
same_value (value.Num a) (value.Date b) h = cc
same_value (value.Num a) value.Null h = cc
same_value (value.Text a) (value.Num b) h = cc
same_value (value.Text a) (value.Text b) h = ap value.Text (same_text a b h)
same_value (value.Text a) (value.Date b) h = cc
same_value (value.Text a) value.Null h = cc
same_value (value.Date a) (value.Num b) h = cc
same_value (value.Date a) (value.Text b) h = cc
same_value (value.Date a) (value.Date b) h = ap value.Date (same_day a b h)
same_value (value.Date a) value.Null h = cc
same_value value.Null (value.Num b) h = cc
same_value value.Null (value.Text b) h = cc
same_value value.Null (value.Date b) h = cc
same_value value.Null value.Null h = refl

both_equal : (r s : Ordering) → ordering_then r s ≡ Equal → (r ≡ Equal) × (s ≡ Equal)
both_equal Less s h = cc
both_equal Equal s h = (refl, h)
both_equal Greater s h = cc

pub same_key : (a b : List Value) → cmp_key a b ≡ Equal → a ≡ b
same_key [] [] h = refl
same_key [] (y ∷ ys) h = cc
same_key (x ∷ xs) [] h = cc
same_key (x ∷ xs) (y ∷ ys) h =
    let p = both_equal (cmp_value x y) (cmp_key xs ys) h in
    let e : x ≡ y = same_value x y p.0 in
    let f : xs ≡ ys = same_key xs ys p.1 in
    λ i. e i ∷ f i

first_decides : (r s : Ordering) → r ≢ Equal → ordering_then r s ≡ r
first_decides Less s n = refl
first_decides Equal s n = absurd (n refl)
first_decides Greater s n = refl

-- a comparison that finds two values different finds them as the order does
pub ordered_as_compared : (a b : Value) → IfSome (compared a b) (λ r. r ≢ Equal → cmp_value a b ≡ r)
ordered_as_compared (value.Num a) (value.Num b) = λ n. first_decides (cmp_worth a b) (nat_cmp a.scale b.scale) n
ordered_as_compared (value.Num a) (value.Text b) = tt
ordered_as_compared (value.Num a) (value.Date b) = tt
ordered_as_compared (value.Num a) value.Null = tt
ordered_as_compared (value.Text a) (value.Num b) = tt
ordered_as_compared (value.Text a) (value.Text b) = λ n. refl
ordered_as_compared (value.Text a) (value.Date b) = tt
ordered_as_compared (value.Text a) value.Null = tt
ordered_as_compared (value.Date a) (value.Num b) = tt
ordered_as_compared (value.Date a) (value.Text b) = tt
ordered_as_compared (value.Date a) (value.Date b) = λ n. refl
ordered_as_compared (value.Date a) value.Null = tt
ordered_as_compared value.Null b = tt

pub equal_as_compared : (a b : Value) → cmp_value a b ≡ Equal → IfSome (compared a b) (λ r. r ≡ Equal)
equal_as_compared (value.Num a) (value.Num b) h = (both_equal (cmp_worth a b) (nat_cmp a.scale b.scale) h).0
equal_as_compared (value.Num a) (value.Text b) h = tt
equal_as_compared (value.Num a) (value.Date b) h = tt
equal_as_compared (value.Num a) value.Null h = tt
equal_as_compared (value.Text a) (value.Num b) h = tt
equal_as_compared (value.Text a) (value.Text b) h = h
equal_as_compared (value.Text a) (value.Date b) h = tt
equal_as_compared (value.Text a) value.Null h = tt
equal_as_compared (value.Date a) (value.Num b) h = tt
equal_as_compared (value.Date a) (value.Text b) h = tt
equal_as_compared (value.Date a) (value.Date b) h = h
equal_as_compared (value.Date a) value.Null h = tt
equal_as_compared value.Null b h = tt
