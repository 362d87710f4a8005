-- Texts: a quote, characters in which each quote is doubled, a quote.
use Rattle.std.specs.Prelude.{ℕ, suc, ◌+◌, ◌-◌, Bool, true, false, ◌&&◌, if◌then◌else◌, ◌==◌, nat_le}
use Rattle.std.specs.Prelude.{[], ◌∷◌, length, take, drop, Option, Some, None}
use Rattle.std.specs.List.{list_all}
use Rattle.std.specs.Option.{option_map, option_or}
use Rattle.mq_values.specs.Bytes.{QUOTE}
use Rattle.mq_values.specs.declared.limits.TheConstants.{MAX_TEXT_BYTES}
use Rattle.mq_lexer.specs.declared.sorts.Sort.TheVariants as sort
use Rattle.mq_lexer.specs.declared.sorts.Front.{Front}
-- no control character
pub use Rattle.mq_values.specs.Text.{is_plain}
use Rattle.mq_lexer.specs.Fronts.{Text, a_token, a_token_if}

-- The length of the longest front that ends with the closing quote. `behind_quote`: a quote stands right before,
-- which is the closing one unless it is the first of two.
abbrev pub closing : Bool → Text → Option ℕ
closing false [] = None
closing true [] = Some 0
closing false (b ∷ z) = option_map suc (closing (b == QUOTE) z)
closing true (b ∷ z) = if b == QUOTE then option_or (option_map suc (closing false z)) (Some 0) else Some 0

-- what stands between the quotes, with each doubled quote as one; `behind_quote`: the first of two stands before
abbrev pub content : Bool → Text → Text
content behind_quote [] = []
content true (b ∷ z) = content false z
content false (b ∷ z) = b ∷ content (b == QUOTE) z

abbrev pub is_content : Text → Bool
is_content inner = nat_le (length (content false inner)) MAX_TEXT_BYTES && list_all is_plain (content false inner)

-- without its closing quote it goes to the end
abbrev pub text_of : Text → Option ℕ → Front
text_of z None = a_token sort.Bad (length z)
text_of z (Some n) = a_token_if (is_content (take (n - 1) (drop 1 z))) sort.Text (n + 1)

unfoldable pub quoted : Text → Front
quoted z = text_of z (closing false (drop 1 z))
