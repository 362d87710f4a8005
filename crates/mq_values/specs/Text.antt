-- Texts as values.
use Rattle.std.specs.Prelude.{ℕ, Bool, not, ◌&&◌, ◌==◌, nat_le, List, length}
use Rattle.std.specs.List.{list_all}
use Rattle.mq_values.specs.Bytes.{DELETE, SPACE}
use Rattle.mq_values.specs.declared.limits.TheConstants.{MAX_TEXT_BYTES}

-- a text holds no control character, which would be a byte of its own in UTF-8
abbrev pub is_plain : ℕ → Bool
is_plain b = nat_le SPACE b && not (b == DELETE)

-- few enough bytes, and no control character
abbrev pub is_text : List ℕ → Bool
is_text bytes = nat_le (length bytes) MAX_TEXT_BYTES && list_all is_plain bytes
