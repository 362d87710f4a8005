-- Conditions, and CASE.
use Rattle.std.specs.Prelude.{Bool, true, false, List, [], ◌∷◌, Result, Ok, Option, Some, None, map, if◌then◌else◌}
use Rattle.mq_values.specs.Truth.{Truth, is_true, opposite, both, either, comparison}
use Rattle.mq_values.specs.declared.faults.ValueFault.{ValueFault}
use Rattle.mq_values.specs.declared.operators.CmpOp.{CmpOp}
use Rattle.mq_values.specs.declared.operators.CmpOp.TheVariants.{Eq, Le, Ge}
use Rattle.mq_values.specs.declared.value.Value.{Value}
use Rattle.mq_values.specs.declared.value.Value.TheVariants as value
use Rattle.mq_ir.specs.declared.expression.Worth.TheVariants as worth
use Rattle.mq_ir.specs.Results.{◌>>=◌}
use Rattle.mq_ir.specs.Worth.{Outcome, Verdict, Found, as_value, as_truth, is_flagged}

-- t AND what comes behind it, which is not evaluated where t is false
abbrev pub and_then : Truth → Verdict → Verdict
and_then t rest = if is_true (opposite t) then Ok (Some false) else rest >>= (λ u. Ok (both t u))

-- t OR what comes behind it, which is not evaluated where t is true
abbrev pub or_then : Truth → Verdict → Verdict
or_then t rest = if is_true t then Ok (Some true) else rest >>= (λ u. Ok (either t u))

-- AND: the operands from left to right, up to the first that is false
abbrev pub conjunction : List Found → Verdict
conjunction [] = Ok (Some true)
conjunction (x ∷ xs) = as_truth x >>= (λ t. and_then t (conjunction xs))

-- OR: the operands from left to right, up to the first that is true
abbrev pub disjunction : List Found → Verdict
disjunction [] = Ok (Some false)
disjunction (x ∷ xs) = as_truth x >>= (λ t. or_then t (disjunction xs))

-- v compared with what is found
abbrev pub compared_to : CmpOp → Value → Found → Found
compared_to op v x = as_value x >>= (λ w. Ok (worth.Truth (comparison op v w)))

-- x BETWEEN a AND b is x >= a AND x <= b, with x evaluated once
abbrev pub between : Value → Found → Found → Verdict
between v low high = as_truth (compared_to Ge v low) >>= (λ t. and_then t (as_truth (compared_to Le v high)))

-- x IN (a, b, ..) is x = a OR x = b OR .., with x evaluated once
abbrev pub member : Value → List Found → Verdict
member v members = disjunction (map (compared_to Eq v) members)

-- the condition of an arm of CASE: its test, or, behind a first expression, that this one's value equals the WHEN value
abbrev pub arm_test : Option Value → Found → Found
arm_test None test = test
arm_test (Some v) test = compared_to Eq v test

-- the result of the first arm whose condition is true, if there is one
abbrev pub arm_taken : Option Value → List (Found × Found) → Result (Option Value) ValueFault
arm_taken subject [] = Ok None
arm_taken subject (arm ∷ arms) =
    as_truth (arm_test subject arm.0) >>= (λ t. if is_true t then as_value arm.1 >>= (λ v. Ok (Some v)) else arm_taken subject arms)

-- what stands behind ELSE counts where no arm is taken; it is null where it is left out
abbrev pub or_else : Option Value → Option Found → Outcome
or_else (Some v) otherwise = Ok v
or_else None None = Ok value.Null
or_else None (Some otherwise) = as_value otherwise

-- the value of an expression that may be left out
abbrev pub value_if : Option Found → Result (Option Value) ValueFault
value_if None = Ok None
value_if (Some found) = as_value found >>= (λ v. Ok (Some v))

-- CASE: its first expression is evaluated once
abbrev pub case_of : Option Found → List (Found × Found) → Option Found → Outcome
case_of subject arms otherwise = value_if subject >>= (λ v. arm_taken v arms >>= (λ taken. or_else taken otherwise))

-- whether what a leaf asks holds
abbrev pub asked : Outcome → Result Bool ValueFault
asked answer = answer >>= (λ v. Ok (is_flagged v))

-- of two leaves the second is asked only where what the first one asks holds
abbrev pub both_asked : Outcome → Outcome → Result Bool ValueFault
both_asked first second = asked first >>= (λ holds. if holds then asked second else Ok false)

-- one of two results, the other of which is not evaluated
abbrev pub chosen : Result Bool ValueFault → Outcome → Outcome → Outcome
chosen test one other = test >>= (λ holds. if holds then one else other)
