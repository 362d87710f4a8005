-- Why the order of values is an order.
use Rattle.std.proofs.Common.{◌≡◌, ℕ, List, Option, Some, None, Ordering, Less, Equal, Greater, refl, subst, sym}
use Rattle.std.specs.Ordering.{on, then_cmp, nat_cmp, ordering_then, eq_by_cmp}
use Rattle.std.specs.Option.{option_cmp}
use Rattle.std.specs.Cmp.{IsEquivalence, IsTotalOrder, unsigned_ties, eq_by_cmp_equiv, on_total, then_total, nat_cmp_total, int_cmp_total}
use Rattle.std.specs.Cmp.Lexicographic.{nat_list_cmp_total, options_total, lists_total, texts_ties}
use Rattle.mq_values.specs.declared.limits.TheConstants.{MAX_SCALE}
use Rattle.mq_values.specs.Number.{Number, cmp_number, mant_at}
use Rattle.mq_values.specs.Order.{cmp_text, cmp_value, cmp_key}
use Rattle.mq_values.specs.NumberOrder.{equal_together}
use Rattle.mq_values.specs.contracts.value.ValuePartialEq.TheImpl.{ghosts as same}
use Rattle.mq_values.specs.declared.value.Value.{Value}
use Rattle.mq_values.specs.declared.value.Value.TheVariants as value

pub number_total : IsTotalOrder cmp_number
number_total = then_total (on_total (mant_at MAX_SCALE) int_cmp_total) (on_total (λ n. n.scale) nat_cmp_total)

abbrev sort_place : Value → ℕ
sort_place (value.Num a) = 0
sort_place (value.Text a) = 1
sort_place (value.Date a) = 2
sort_place value.Null = 3

abbrev number_in : Value → Option Number
number_in (value.Num a) = Some a
number_in (value.Text a) = None
number_in (value.Date a) = None
number_in value.Null = None

abbrev text_in : Value → Option (List ℕ)
text_in (value.Num a) = None
text_in (value.Text a) = Some a
text_in (value.Date a) = None
text_in value.Null = None

abbrev day_in : Value → Option ℕ
day_in (value.Num a) = None
day_in (value.Text a) = None
day_in (value.Date a) = Some a
day_in value.Null = None

-- by sort, then as numbers, as texts and as days
abbrev by_parts : Value → Value → Ordering
by_parts =
    then_cmp (on sort_place nat_cmp) (then_cmp (on number_in (option_cmp cmp_number))
    (then_cmp (on text_in (option_cmp cmp_text)) (on day_in (option_cmp nat_cmp))))

then_equal : (r : Ordering) → ordering_then r Equal ≡ r
then_equal Less = refl
then_equal Equal = refl
then_equal Greater = refl

in_parts : (a b : Value) → by_parts a b ≡ cmp_value a b
in_parts (value.Num a) (value.Num b) = then_equal (cmp_number a b)
in_parts (value.Num a) (value.Text b) = refl
in_parts (value.Num a) (value.Date b) = refl
in_parts (value.Num a) value.Null = refl
in_parts (value.Text a) (value.Num b) = refl
in_parts (value.Text a) (value.Text b) = then_equal (cmp_text a b)
in_parts (value.Text a) (value.Date b) = refl
in_parts (value.Text a) value.Null = refl
in_parts (value.Date a) (value.Num b) = refl
in_parts (value.Date a) (value.Text b) = refl
in_parts (value.Date a) (value.Date b) = refl
in_parts (value.Date a) value.Null = refl
in_parts value.Null (value.Num b) = refl
in_parts value.Null (value.Text b) = refl
in_parts value.Null (value.Date b) = refl
in_parts value.Null value.Null = refl

pub value_total : IsTotalOrder cmp_value
value_total =
    subst IsTotalOrder (λ i a b. in_parts a b i)
    (then_total (on_total sort_place nat_cmp_total) (then_total (on_total number_in (options_total number_total))
    (then_total (on_total text_in (options_total nat_list_cmp_total)) (on_total day_in (options_total nat_cmp_total)))))

pub key_total : IsTotalOrder cmp_key
key_total = lists_total value_total

-- two values are equal exactly where the total order tells them not apart
pub values_tie : (a b : Value) → same.eq a b ≡ eq_by_cmp cmp_value a b
values_tie (value.Num a) (value.Num b) = equal_together a b
values_tie (value.Num a) (value.Text b) = refl
values_tie (value.Num a) (value.Date b) = refl
values_tie (value.Num a) value.Null = refl
values_tie (value.Text a) (value.Num b) = refl
values_tie (value.Text a) (value.Text b) = texts_ties a b
values_tie (value.Text a) (value.Date b) = refl
values_tie (value.Text a) value.Null = refl
values_tie (value.Date a) (value.Num b) = refl
values_tie (value.Date a) (value.Text b) = refl
values_tie (value.Date a) (value.Date b) = unsigned_ties a b
values_tie (value.Date a) value.Null = refl
values_tie value.Null (value.Num b) = refl
values_tie value.Null (value.Text b) = refl
values_tie value.Null (value.Date b) = refl
values_tie value.Null value.Null = refl

pub values_equiv : IsEquivalence same.eq
values_equiv = subst IsEquivalence (λ i a b. sym (values_tie a b) i) (eq_by_cmp_equiv value_total)
