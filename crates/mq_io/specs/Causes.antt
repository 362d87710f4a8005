-- When an object outside may say that it failed.
use Rattle.std.specs.Prelude.{ℕ, ◌+◌, ◌-◌, ◌^◌, ◌≤◌, min}

-- where a count stands still: the end of its type
abbrev pub LAST_COUNT : ℕ
LAST_COUNT = 2 ^ 64 - 1

-- a count of faults rose: it is higher than before, or stands at the end of its type
abbrev pub Rose : ℕ → ℕ → Type 0
Rose before now = min (before + 1) LAST_COUNT ≤ now
