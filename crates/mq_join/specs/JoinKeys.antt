-- Values as an index of a column tells them apart: numbers by what they are worth, whatever their scales.
use Rattle.std.proofs.Common.{◌≡◌, ℕ, Bool, true, false, List, [], Option, Some, None, Ordering, Less, Equal, Greater, refl, subst}
use Rattle.std.specs.Prelude.{slice_index_or}
use Rattle.std.specs.Ordering.{on, then_cmp, nat_cmp, int_cmp, ordering_then, eq_by_cmp}
use Rattle.std.specs.Option.{option_cmp}
use Rattle.std.specs.Cmp.{IsTotalOrder, IsEquivalence, eq_by_cmp_equiv, on_total, then_total, nat_cmp_total, int_cmp_total}
use Rattle.std.specs.Cmp.Lexicographic.{nat_list_cmp_total, options_total}
use Rattle.mq_values.specs.declared.limits.TheConstants.{MAX_SCALE}
use Rattle.mq_values.specs.Number.{Number, cmp_worth, mant_at}
use Rattle.mq_values.specs.Order.{cmp_text}
use Rattle.mq_values.specs.declared.value.Value.{Value}
use Rattle.mq_values.specs.declared.value.Value.TheVariants as value
use Rattle.mq_ir.specs.Keys.{Tuple}

-- numbers before texts, texts before dates, and null last; numbers that are worth the same are one key
abbrev pub cmp_joined : Value → Value → Ordering
cmp_joined (value.Num a) (value.Num b) = cmp_worth a b
cmp_joined (value.Num a) (value.Text b) = Less
cmp_joined (value.Num a) (value.Date b) = Less
cmp_joined (value.Num a) value.Null = Less
cmp_joined (value.Text a) (value.Num b) = Greater
cmp_joined (value.Text a) (value.Text b) = cmp_text a b
cmp_joined (value.Text a) (value.Date b) = Less
cmp_joined (value.Text a) value.Null = Less
cmp_joined (value.Date a) (value.Num b) = Greater
cmp_joined (value.Date a) (value.Text b) = Greater
cmp_joined (value.Date a) (value.Date b) = nat_cmp a b
cmp_joined (value.Date a) value.Null = Less
cmp_joined value.Null (value.Num b) = Greater
cmp_joined value.Null (value.Text b) = Greater
cmp_joined value.Null (value.Date b) = Greater
cmp_joined value.Null value.Null = Equal

abbrev pub is_same_key : Value → Value → Bool
is_same_key = eq_by_cmp cmp_joined

abbrev sort_place : Value → ℕ
sort_place (value.Num a) = 0
sort_place (value.Text a) = 1
sort_place (value.Date a) = 2
sort_place value.Null = 3

abbrev number_in : Value → Option Number
number_in (value.Num a) = Some a
number_in (value.Text a) = None
number_in (value.Date a) = None
number_in value.Null = None

abbrev text_in : Value → Option (List ℕ)
text_in (value.Num a) = None
text_in (value.Text a) = Some a
text_in (value.Date a) = None
text_in value.Null = None

abbrev day_in : Value → Option ℕ
day_in (value.Num a) = None
day_in (value.Text a) = None
day_in (value.Date a) = Some a
day_in value.Null = None

-- by sort, then as numbers, then as texts, then as dates
abbrev by_parts : Value → Value → Ordering
by_parts =
    then_cmp (on sort_place nat_cmp)
    (then_cmp (on number_in (option_cmp cmp_worth)) (then_cmp (on text_in (option_cmp cmp_text)) (on day_in (option_cmp nat_cmp))))

then_equal : (r : Ordering) → ordering_then r Equal ≡ r
then_equal Less = refl
then_equal Equal = refl
then_equal Greater = refl

in_parts : (a b : Value) → by_parts a b ≡ cmp_joined a b
in_parts (value.Num a) (value.Num b) = then_equal (cmp_worth a b)
in_parts (value.Num a) (value.Text b) = refl
in_parts (value.Num a) (value.Date b) = refl
in_parts (value.Num a) value.Null = refl
in_parts (value.Text a) (value.Num b) = refl
in_parts (value.Text a) (value.Text b) = then_equal (cmp_text a b)
in_parts (value.Text a) (value.Date b) = refl
in_parts (value.Text a) value.Null = refl
in_parts (value.Date a) (value.Num b) = refl
in_parts (value.Date a) (value.Text b) = refl
in_parts (value.Date a) (value.Date b) = refl
in_parts (value.Date a) value.Null = refl
in_parts value.Null (value.Num b) = refl
in_parts value.Null (value.Text b) = refl
in_parts value.Null (value.Date b) = refl
in_parts value.Null value.Null = refl

pub joined_total : IsTotalOrder cmp_joined
joined_total =
    subst IsTotalOrder (λ i a b. in_parts a b i)
    (then_total (on_total sort_place nat_cmp_total)
    (then_total (on_total number_in (options_total (on_total (mant_at MAX_SCALE) int_cmp_total)))
    (then_total (on_total text_in (options_total nat_list_cmp_total)) (on_total day_in (options_total nat_cmp_total)))))

pub same_keys_equiv : IsEquivalence is_same_key
same_keys_equiv = eq_by_cmp_equiv joined_total

abbrev pub is_number : Value → Bool
is_number (value.Num n) = true
is_number (value.Text t) = false
is_number (value.Date d) = false
is_number value.Null = false

abbrev pub is_text : Value → Bool
is_text (value.Num n) = false
is_text (value.Text t) = true
is_text (value.Date d) = false
is_text value.Null = false

abbrev pub is_date : Value → Bool
is_date (value.Num n) = false
is_date (value.Text t) = false
is_date (value.Date d) = true
is_date value.Null = false
