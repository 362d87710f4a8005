-- What a shelf answers.
use Rattle.std.specs.Prelude.{◌≡◌, ℕ, ◌+◌, ◌<◌, ◌≤◌, List, length, min, ⊤, Option, None, Some, Result, Ok, Err}
use Rattle.mq_io.specs.Causes.{LAST_COUNT}
use Rattle.mq_io.specs.declared.faults.IoFault.{IoFault}
use Rattle.mq_io.specs.declared.faults.IoFault.TheVariants.{Failed, Memory}
use Rattle.mq_io.specs.declared.shelves.Fetched.{Fetched}
use Rattle.mq_io.specs.declared.shelves.Fetched.TheVariants.{Bytes, Absent, TooLong}

-- the answer, where this file stands under the name that was asked for, or none
abbrev pub IsAnswer : ℕ → Option (List ℕ) → Fetched → Type 0
IsAnswer limit None (Bytes bytes) = ⊥
IsAnswer limit None Absent = ⊤
IsAnswer limit None TooLong = ⊥
IsAnswer limit (Some file) (Bytes bytes) = (bytes.items ≡ file) × (length file ≤ limit)
IsAnswer limit (Some file) Absent = ⊥
IsAnswer limit (Some file) TooLong = limit < length file

-- no bytes past the limit are answered
abbrev pub IsWithin : ℕ → Fetched → Type 0
IsWithin limit (Bytes bytes) = length bytes.items ≤ limit
IsWithin limit Absent = ⊤
IsWithin limit TooLong = ⊤

-- the count of faults after a call: one higher where the shelf failed, and else as it was
abbrev pub count_after : ℕ → Result Fetched IoFault → ℕ
count_after count (Ok fetched) = count
count_after count (Err Failed) = min (count + 1) LAST_COUNT
count_after count (Err Memory) = count
