-- What an exact call may answer.
use Rattle.std.specs.Prelude.{◌≡◌, Result, Ok, Err}
use Rattle.mq_values.specs.declared.memory.Fail.{Fail}
use Rattle.mq_values.specs.declared.memory.Fail.TheVariants as fail

-- the call gave what is meant, unless memory ran out
abbrev pub Gives : {T E : Type 0} → Result T (Fail E) → Result T E → Type 0
Gives (Ok x) meant = meant ≡ Ok x
Gives (Err (fail.Cause e)) meant = meant ≡ Err e
Gives (Err fail.Memory) meant = Unit {0}

-- what comes of a value, where there is one
abbrev pub result_map : {A B E : Type 0} → (A → B) → Result A E → Result B E
result_map f (Ok x) = Ok (f x)
result_map f (Err e) = Err e

-- one step after another: the first fault is the answer
abbrev pub result_and_then : {A B E : Type 0} → Result A E → (A → Result B E) → Result B E
result_and_then (Ok x) f = f x
result_and_then (Err e) f = Err e
