-- What stands at the front of a text.
use Rattle.std.specs.Prelude.{ℕ, zero, suc, ◌+◌, Bool, not, ◌&&◌, ◌||◌, if◌then◌else◌, ◌==◌, nat_le, nat_lt}
use Rattle.std.specs.Prelude.{[], ◌∷◌, length, drop, slice_index, codes, Option, Some, None}
use Rattle.std.specs.Char.{is_ascii_digit, is_ascii_alphabetic, is_ascii_alphanumeric}
use Rattle.std.specs.List.{list_any, prefix_len}
use Rattle.std.specs.Option.{option_map}
use Rattle.mq_values.specs.Bytes.{BAR, BEYOND_ASCII, CARRIAGE_RETURN, EQUAL, EXCLAMATION, GREATER, LEADING}
use Rattle.mq_values.specs.Bytes.{LESS, LINE_FEED, MINUS, POINT, QUOTE, SLASH, SPACE, STAR, TAB, UNDERSCORE}
use Rattle.mq_values.specs.declared.limits.TheConstants.{MAX_WORD_BYTES}
use Rattle.mq_lexer.specs.declared.sorts.Sort.TheVariants as sort
use Rattle.mq_lexer.specs.declared.sorts.Front.{Front}
use Rattle.mq_lexer.specs.Fronts.{Text, a_token, a_gap, a_token_if}
use Rattle.mq_lexer.specs.Numbers.{number}
use Rattle.mq_lexer.specs.Quotes.{quoted}

-- space, tab, CR, LF
abbrev pub is_blank : ℕ → Bool
is_blank b = b == SPACE || b == TAB || b == CARRIAGE_RETURN || b == LINE_FEED

-- ---- words: a letter, then letters, digits and `_`

abbrev pub is_word_byte : ℕ → Bool
is_word_byte b = is_ascii_alphanumeric b || b == UNDERSCORE

abbrev pub word_len : Text → ℕ
word_len z = prefix_len is_word_byte z

unfoldable pub word : Text → Front
word z = a_token_if (nat_le (word_len z) MAX_WORD_BYTES) sort.Word (word_len z)

-- ---- comments: `--` to before the next LF, `/*` to behind the next `*/`

abbrev pub is_not_lf : ℕ → Bool
is_not_lf b = not (b == LINE_FEED)

unfoldable pub line_comment : Text → Front
line_comment z = a_gap (prefix_len is_not_lf z)

-- the length of what stands up to the next `*/`, with it
abbrev pub comment_end : Text → Option ℕ
comment_end [] = None
comment_end (b ∷ z) = if b == STAR && slice_index z 0 == SLASH then Some 2 else option_map suc (comment_end z)

-- without its end it is a Bad token to the end
abbrev pub comment_of : Text → Option ℕ → Front
comment_of z None = a_token sort.Bad (length z)
comment_of z (Some n) = a_gap (n + 2)

unfoldable pub block_comment : Text → Front
block_comment z = comment_of z (comment_end (drop 2 z))

-- ---- signs, and whatever is none of these

-- the length of the sign that begins with these bytes; 0 where none does
unfoldable pub sign_len : ℕ → ℕ → ℕ
sign_len b next =
    if b == LESS && (next == EQUAL || next == GREATER) then 2
    else (if (b == EXCLAMATION || b == GREATER) && next == EQUAL then 2
    else (if b == BAR && next == BAR then 2
    else (if list_any (λ sign. b == sign) (codes "()[],;.=<>+-*/") then 1
    else 0)))

-- the bytes of a character behind its first
abbrev pub is_continuation : ℕ → Bool
is_continuation b = nat_le BEYOND_ASCII b && nat_lt b LEADING

unfoldable pub char_len : Text → ℕ
char_len z = if nat_lt (slice_index z 0) BEYOND_ASCII then 1 else 1 + prefix_len is_continuation (drop 1 z)

abbrev pub sign_of : ℕ → Text → Front
sign_of zero z = a_token sort.Bad (char_len z)
sign_of (suc n) z = a_token sort.Sign (suc n)

unfoldable pub sign_or_bad : Text → Front
sign_or_bad z = sign_of (sign_len (slice_index z 0) (slice_index z 1)) z

-- ---- the front of a text

unfoldable pub front : Text → Front
front z =
    let b = slice_index z 0 in
    let next = slice_index z 1 in
    if is_blank b then a_gap 1
    else (if is_ascii_alphabetic b then word z
    else (if is_ascii_digit b || (b == POINT && is_ascii_digit next) then number z
    else (if b == QUOTE then quoted z
    else (if b == MINUS && next == MINUS then line_comment z
    else (if b == SLASH && next == STAR then block_comment z
    else sign_or_bad z)))))
