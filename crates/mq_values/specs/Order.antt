-- How values are ordered, and how they compare.
use Rattle.std.specs.Prelude.{ℕ, List, Option, Some, None}
use Rattle.std.specs.Ordering.{nat_cmp}
use Rattle.std.specs.Cmp.Lexicographic.{slice_cmp}
use Rattle.std.specs.declared.cmp.Ordering.{Ordering}
use Rattle.std.specs.declared.cmp.Ordering.TheVariants.{Less, Equal, Greater}
use Rattle.mq_values.specs.Number.{cmp_number, cmp_worth}
use Rattle.mq_values.specs.declared.value.Value.{Value}
use Rattle.mq_values.specs.declared.value.Value.TheVariants as value

-- texts by their bytes
abbrev pub cmp_text : List ℕ → List ℕ → Ordering
cmp_text = slice_cmp nat_cmp

-- the total order of values: numbers before texts, texts before dates, and null last
abbrev pub cmp_value : Value → Value → Ordering
cmp_value (value.Num a) (value.Num b) = cmp_number a b
cmp_value (value.Num a) (value.Text b) = Less
cmp_value (value.Num a) (value.Date b) = Less
cmp_value (value.Num a) value.Null = Less
cmp_value (value.Text a) (value.Num b) = Greater
cmp_value (value.Text a) (value.Text b) = cmp_text a b
cmp_value (value.Text a) (value.Date b) = Less
cmp_value (value.Text a) value.Null = Less
cmp_value (value.Date a) (value.Num b) = Greater
cmp_value (value.Date a) (value.Text b) = Greater
cmp_value (value.Date a) (value.Date b) = nat_cmp a b
cmp_value (value.Date a) value.Null = Less
cmp_value value.Null (value.Num b) = Greater
cmp_value value.Null (value.Text b) = Greater
cmp_value value.Null (value.Date b) = Greater
cmp_value value.Null value.Null = Equal

-- tuples of values: the first place in which they differ decides
abbrev pub cmp_key : List Value → List Value → Ordering
cmp_key = slice_cmp cmp_value

-- what a comparison of a statement sees: numbers by what they are worth, texts and dates in their order, and nothing where one is null or the sorts differ
abbrev pub compared : Value → Value → Option Ordering
compared (value.Num a) (value.Num b) = Some (cmp_worth a b)
compared (value.Text a) (value.Text b) = Some (cmp_text a b)
compared (value.Date a) (value.Date b) = Some (nat_cmp a b)
compared _ _ = None
