-- An aggregate on its way: some values are taken, others are still to come.
use Rattle.std.specs.Prelude.{◌≡◌, ◌+◌, pos, List, ◌∷◌, length, Some, None, Result, Ok, Err}
use Rattle.mq_values.specs.Answers.{result_map, result_and_then}
use Rattle.mq_values.specs.Arithmetic.{in_range, quotient_of}
use Rattle.mq_values.specs.Aggregate.{present, numbers, sum_from, sum_value, average_value, least, least_from, greatest, greatest_from}
use Rattle.mq_values.specs.declared.faults.ValueFault.{ValueFault}
use Rattle.mq_values.specs.declared.memory.Fail.{Fail}
use Rattle.mq_values.specs.declared.memory.Fail.TheVariants as fail
use Rattle.mq_values.specs.declared.tally.Tally.{Tally}
use Rattle.mq_values.specs.declared.tally.Tally.TheVariants as tally
use Rattle.mq_values.specs.declared.value.Value.{Value}
use Rattle.mq_values.specs.declared.value.Value.TheVariants as value

-- what the aggregate comes to with the values that are still to come
abbrev pub outcome : Tally → List Value → Result Value ValueFault
outcome (tally.Sum None) vs = sum_value (numbers vs)
outcome (tally.Sum (Some s)) vs = result_map value.Num (sum_from s (numbers vs))
outcome (tally.Avg None) vs = average_value (numbers vs)
outcome (tally.Avg (Some p)) vs =
    result_and_then (sum_from p.0 (numbers vs)) (λ s. result_and_then (in_range (pos (p.1 + length (numbers vs))) 0) (λ c. result_map value.Num (quotient_of s c)))
outcome (tally.Min None) vs = Ok (least (present vs))
outcome (tally.Min (Some v)) vs = Ok (least_from v (present vs))
outcome (tally.Max None) vs = Ok (greatest (present vs))
outcome (tally.Max (Some v)) vs = Ok (greatest_from v (present vs))
outcome (tally.Count n) vs = result_map value.Num (in_range (pos (n + length (present vs))) 0)

-- the next value v was taken, or is where the aggregate faults
abbrev pub Takes : Tally → Value → Result Tally (Fail ValueFault) → Type 0
Takes t v (Ok u) = (vs : List Value) → outcome u vs ≡ outcome t (v ∷ vs)
Takes t v (Err (fail.Cause e)) = (vs : List Value) → outcome t (v ∷ vs) ≡ Err e
Takes t v (Err fail.Memory) = Unit {0}
