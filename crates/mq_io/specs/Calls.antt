-- The calls of an object in memory: which of them are to fail, and how far it has come.
use Rattle.std.specs.Prelude.{Bool, ℕ, ◌+◌, ◌==◌, min, List, if◌then◌else◌}
use Rattle.std.specs.List.{list_any}
use Rattle.mq_io.specs.Causes.{LAST_COUNT}

-- the numbers of the calls that are to fail, the calls made so far, and those of them that failed
pub record Calls : Type 0 where
  pub failing : List ℕ
  pub made : ℕ
  pub failed : ℕ

-- before the first call
abbrev pub no_calls : List ℕ → Calls
no_calls failing = record { failing = failing; made = 0; failed = 0 }

-- the number of the next call, counted from 1
abbrev pub next_call : Calls → ℕ
next_call calls = min (calls.made + 1) LAST_COUNT

-- the next call is to fail
abbrev pub is_due : Calls → Bool
is_due calls = list_any (λ n. n == next_call calls) calls.failing

-- after the next call
abbrev pub after_call : Calls → Calls
after_call calls = record {
  failing = calls.failing;
  made = next_call calls;
  failed = min (calls.failed + (if is_due calls then 1 else 0)) LAST_COUNT;
}
