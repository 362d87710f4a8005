-- What operators and functions make of values.
use Rattle.std.specs.Prelude.{ℕ, ◌==◌, ℤ, neg_ℤ, List, [], ◌∷◌, Result, Ok, if◌then◌else◌}
use Rattle.mq_values.specs.Number.{Number}
use Rattle.mq_values.specs.Arithmetic.{sum_of, difference_of, product_of, quotient_of, magnitude_of, floor_of}
use Rattle.mq_values.specs.Calendar.{days_between, shifted}
use Rattle.mq_values.specs.Convert.{joined, number_at, length_of}
use Rattle.mq_values.specs.DimTests.{is_null}
use Rattle.mq_values.specs.declared.faults.ValueFault.{ValueFault}
use Rattle.mq_values.specs.declared.operators.Func.{Func}
use Rattle.mq_values.specs.declared.operators.Func.TheVariants as func
use Rattle.mq_values.specs.declared.operators.ProdOp.{ProdOp}
use Rattle.mq_values.specs.declared.operators.ProdOp.TheVariants.{Mul, Div}
use Rattle.mq_values.specs.declared.operators.SumOp.{SumOp}
use Rattle.mq_values.specs.declared.operators.SumOp.TheVariants.{Add, Sub, Join}
use Rattle.mq_values.specs.declared.value.Value.{Value}
use Rattle.mq_values.specs.declared.value.Value.TheVariants as value
use Rattle.mq_ir.specs.Results.{◌>>=◌}
use Rattle.mq_ir.specs.Worth.{Outcome, Found, a_number, as_value}

-- a function of numbers; of null, and of what is no number, it is null
abbrev pub of_number : (Number → Result Number ValueFault) → Value → Outcome
of_number f (value.Num n) = a_number (f n)
of_number f (value.Text t) = Ok value.Null
of_number f (value.Date d) = Ok value.Null
of_number f value.Null = Ok value.Null

abbrev pub of_numbers : (Number → Number → Result Number ValueFault) → Value → Value → Outcome
of_numbers f (value.Num a) (value.Num b) = a_number (f a b)
of_numbers f _ _ = Ok value.Null

abbrev pub a_day : Result ℕ ValueFault → Outcome
a_day r = r >>= (λ d. Ok (value.Date d))

-- the day that lies so many days behind another; null where the number of days is of another scale than 0
abbrev pub moved_day : ℕ → ℕ → ℤ → Outcome
moved_day day scale days = if scale == 0 then a_day (shifted day days) else Ok value.Null

-- a + b: of two numbers, and of a date and an INT in either order
abbrev pub value_sum : Value → Value → Outcome
value_sum (value.Num a) (value.Num b) = a_number (sum_of a b)
value_sum (value.Date d) (value.Num n) = moved_day d n.scale n.mant
value_sum (value.Num n) (value.Date d) = moved_day d n.scale n.mant
value_sum _ _ = Ok value.Null

-- a - b: of two numbers, of a date less an INT, and of a date less a date, which is a number of days
abbrev pub value_difference : Value → Value → Outcome
value_difference (value.Num a) (value.Num b) = a_number (difference_of a b)
value_difference (value.Date d) (value.Num n) = moved_day d n.scale (neg_ℤ n.mant)
value_difference (value.Date a) (value.Date b) = Ok (value.Num (days_between a b))
value_difference _ _ = Ok value.Null

abbrev pub added : SumOp → Value → Value → Outcome
added Add = value_sum
added Sub = value_difference
added Join = joined

abbrev pub multiplied : ProdOp → Value → Value → Outcome
multiplied Mul = of_numbers product_of
multiplied Div = of_numbers quotient_of

-- a chain of operators, folded from the left: each right operand is evaluated just before it is combined
abbrev pub chained : {Op : Type 0} → (Op → Value → Value → Outcome) → Value → List (Op × Found) → Outcome
chained combined so_far [] = Ok so_far
chained combined so_far (term ∷ terms) = as_value term.1 >>= combined term.0 so_far >>= (λ v. chained combined v terms)

-- a function of one argument
abbrev pub applied : Func → Value → Outcome
applied func.Abs v = of_number magnitude_of v
applied func.Floor v = of_number (λ n. Ok (floor_of n)) v
applied func.Length v = Ok (length_of v)
applied (func.Round k) (value.Num n) = number_at n k
applied (func.Round k) _ = Ok value.Null
applied func.Nvl v = Ok v

-- NVL evaluates its second argument only where the first is null. A function with another number of arguments, which no statement has, has no
-- meaning: of one argument it is applied to that one, and else it is null.
abbrev pub called : Func → List Found → Outcome
called func.Nvl (a ∷ b ∷ []) = as_value a >>= (λ v. if is_null v then as_value b else Ok v)
called f (a ∷ []) = as_value a >>= applied f
called _ _ = Ok value.Null
