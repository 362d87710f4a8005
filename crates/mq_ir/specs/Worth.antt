-- What an expression is worth: a value, or whether a condition holds.
use Rattle.std.specs.Prelude.{ℕ, pos, Bool, true, false, not, Result, Ok, None}
use Rattle.std.specs.Ordering.{int_eq}
use Rattle.mq_values.specs.Number.{Number}
use Rattle.mq_values.specs.Truth.{Truth}
use Rattle.mq_values.specs.declared.faults.ValueFault.{ValueFault}
use Rattle.mq_values.specs.declared.value.Value.{Value}
use Rattle.mq_values.specs.declared.value.Value.TheVariants as value
use Rattle.mq_ir.specs.Results.{◌>>=◌}
use Rattle.mq_ir.specs.declared.expression.Worth.{Worth}
use Rattle.mq_ir.specs.declared.expression.Worth.TheVariants as worth

-- a value, or the first fault on the way to it
abbrev pub Outcome : Type 0
Outcome = Result Value ValueFault

-- what a condition comes to, or the first fault on the way to it
abbrev pub Verdict : Type 0
Verdict = Result Truth ValueFault

-- what an expression is worth, or the first fault on the way to it
abbrev pub Found : Type 0
Found = Result Worth ValueFault

-- a condition in the place of a value is null
abbrev pub value_in : Worth → Value
value_in (worth.Value v) = v
value_in (worth.Truth t) = value.Null

-- a value in the place of a condition is unknown
abbrev pub truth_in : Worth → Truth
truth_in (worth.Value v) = None
truth_in (worth.Truth t) = t

abbrev pub as_value : Found → Outcome
as_value found = found >>= (λ w. Ok (value_in w))

abbrev pub as_truth : Found → Verdict
as_truth found = found >>= (λ w. Ok (truth_in w))

abbrev pub a_value : Outcome → Found
a_value outcome = outcome >>= (λ v. Ok (worth.Value v))

abbrev pub a_truth : Verdict → Found
a_truth verdict = verdict >>= (λ t. Ok (worth.Truth t))

abbrev pub a_number : Result Number ValueFault → Outcome
a_number r = r >>= (λ n. Ok (value.Num n))

-- a whole number as an INT; and what a leaf gives that holds or does not
abbrev pub whole : ℕ → Value
whole n = value.Num (record { mant = pos n; scale = 0 })

abbrev pub flag : Bool → Value
flag true = whole 1
flag false = whole 0

-- a leaf that asks holds where it gives a number that is not 0
abbrev pub is_flagged : Value → Bool
is_flagged (value.Num n) = not (int_eq n.mant (pos 0))
is_flagged (value.Text t) = false
is_flagged (value.Date d) = false
is_flagged value.Null = false
