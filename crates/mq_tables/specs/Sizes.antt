-- Sizes as the machine counts them.
use Rattle.std.specs.Prelude.{ℕ, ◌-◌, ◌^◌, min}

-- a number as far as a count in 64 bits goes, at whose end it stands still
abbrev pub capped : ℕ → ℕ
capped n = min n (2 ^ 64 - 1)
