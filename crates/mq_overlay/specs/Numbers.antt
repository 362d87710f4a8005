-- Changes by their numbers.
use Rattle.std.specs.Prelude.{ℕ, Result, Ok, Err}
use Rattle.mq_values.specs.declared.faults.Refused.{Refused}
use Rattle.mq_values.specs.declared.memory.Fail.{Fail}
use Rattle.mq_values.specs.declared.memory.Fail.TheVariants as fail
use Rattle.mq_ir.specs.Scenarios.{Stop}

-- that a change was made, or its number and why it is refused
abbrev pub numbered : ℕ → Result ℕ (Fail Refused) → Result (Unit {0}) (Fail Stop)
numbered k (Ok count) = Ok tt
numbered k (Err (fail.Cause refusal)) = Err (fail.Cause (k, refusal))
numbered k (Err fail.Memory) = Err fail.Memory
