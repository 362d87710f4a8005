-- Where a text is cut.
use Rattle.std.specs.Prelude.{ℕ, Bool, ◌==◌}
use Rattle.mq_values.specs.Bytes.{QUOTE}

abbrev pub is_quote : ℕ → Bool
is_quote b = b == QUOTE
