-- Aggregates of a list of values, in its order. Nulls are skipped.
use Rattle.std.specs.Prelude.{pos, Bool, true, false, if◌then◌else◌, List, [], ◌∷◌, length, Option, Some, None, Result, Ok}
use Rattle.std.specs.List.{filter, filter_map}
use Rattle.std.specs.Ordering.{is_lt, is_gt}
use Rattle.mq_values.specs.Answers.{result_map, result_and_then}
use Rattle.mq_values.specs.Number.{Number}
use Rattle.mq_values.specs.Arithmetic.{in_range, sum_of, quotient_of}
use Rattle.mq_values.specs.Order.{cmp_value}
use Rattle.mq_values.specs.declared.faults.ValueFault.{ValueFault}
use Rattle.mq_values.specs.declared.operators.Agg.{Agg}
use Rattle.mq_values.specs.declared.operators.Agg.TheVariants.{Sum, Avg, Min, Max, Count}
use Rattle.mq_values.specs.declared.value.Value.{Value}
use Rattle.mq_values.specs.declared.value.Value.TheVariants as value

abbrev pub is_value : Value → Bool
is_value (value.Num n) = true
is_value (value.Text t) = true
is_value (value.Date d) = true
is_value value.Null = false

-- those that are not null
abbrev pub present : List Value → List Value
present = filter is_value

abbrev pub number_in : Value → Option Number
number_in (value.Num n) = Some n
number_in (value.Text t) = None
number_in (value.Date d) = None
number_in value.Null = None

abbrev pub numbers : List Value → List Number
numbers = filter_map number_in

-- a count is an INT
abbrev pub count : {A : Type 0} → List A → Result Number ValueFault
count xs = in_range (pos (length xs)) 0

-- the sum in order, from n on: every partial sum must be in range
abbrev pub sum_from : Number → List Number → Result Number ValueFault
sum_from n [] = Ok n
sum_from n (m ∷ ms) = result_and_then (sum_of n m) (λ s. sum_from s ms)

abbrev pub sum_value : List Number → Result Value ValueFault
sum_value [] = Ok value.Null
sum_value (n ∷ ns) = result_map value.Num (sum_from n ns)

-- the sum divided by the count
abbrev pub average_value : List Number → Result Value ValueFault
average_value [] = Ok value.Null
average_value (n ∷ ns) = result_and_then (sum_from n ns) (λ s. result_and_then (count (n ∷ ns)) (λ c. result_map value.Num (quotient_of s c)))

-- the first and the last in the total order, from v on
abbrev pub least_from : Value → List Value → Value
least_from v [] = v
least_from v (w ∷ ws) = least_from (if is_lt (cmp_value w v) then w else v) ws

abbrev pub greatest_from : Value → List Value → Value
greatest_from v [] = v
greatest_from v (w ∷ ws) = greatest_from (if is_gt (cmp_value w v) then w else v) ws

abbrev pub least : List Value → Value
least [] = value.Null
least (v ∷ vs) = least_from v vs

abbrev pub greatest : List Value → Value
greatest [] = value.Null
greatest (v ∷ vs) = greatest_from v vs

-- an aggregate of the values in their order; of nothing it is null, and COUNT is 0
abbrev pub aggregate : Agg → List Value → Result Value ValueFault
aggregate Sum vs = sum_value (numbers vs)
aggregate Avg vs = average_value (numbers vs)
aggregate Min vs = Ok (least (present vs))
aggregate Max vs = Ok (greatest (present vs))
aggregate Count vs = result_map value.Num (count (present vs))
