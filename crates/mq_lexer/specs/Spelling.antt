-- How tokens are spelled, apart from any way to find them. `fits` says whether the limits are kept.
use Rattle.std.specs.Prelude.{◌≡◌, ◌≢◌, ℕ, ◌<◌, ◌≤◌, Bool, true, ◌&&◌, ◌||◌, if◌then◌else◌, ◌==◌, nat_le, ◌⊎◌}
use Rattle.std.specs.Prelude.{List, [], ◌∷◌, ◌++◌, length, take, slice_index, codes}
use Rattle.std.specs.Char.{is_ascii_digit, is_ascii_alphabetic}
use Rattle.std.specs.List.{list_all, list_any}
use Rattle.std.specs.Str.{bytes_eq}
use Rattle.mq_values.specs.Bytes.{MINUS, POINT, QUOTE, SLASH, STAR}
use Rattle.mq_values.specs.declared.limits.TheConstants.{MAX_SCALE, MAX_TEXT_BYTES, MAX_WORD_BYTES}
use Rattle.mq_lexer.specs.declared.sorts.Sort.{Sort}
use Rattle.mq_lexer.specs.declared.sorts.Sort.TheVariants as sort
use Rattle.mq_lexer.specs.declared.sorts.Front.{Front}
use Rattle.mq_lexer.specs.Fronts.{Text, a_token}
use Rattle.mq_lexer.specs.Numbers.{is_small}
use Rattle.mq_lexer.specs.Pieces.{is_blank, is_word_byte, char_len}
use Rattle.mq_lexer.specs.Quotes.{is_plain}

-- a letter, then letters, digits and `_`; few enough bytes
pub record SpellsWord (t : Text) (fits : Bool) : Type 0 where
  pub letter : is_ascii_alphabetic (slice_index t 0) ≡ true
  pub bytes : list_all is_word_byte t ≡ true
  pub limit : fits ≡ nat_le (length t) MAX_WORD_BYTES

-- digits, which make no number that is too great
pub record SpellsWhole (t : Text) (fits : Bool) : Type 0 where
  pub some : 0 < length t
  pub digits : list_all is_ascii_digit t ≡ true
  pub limit : fits ≡ is_small t

-- digits or none, a point, digits; few enough behind the point
pub record SpellsFraction (t : Text) (fits : Bool) : Type 0 where
  pub whole : Text
  pub fraction : Text
  pub is : t ≡ whole ++ POINT ∷ fraction
  pub some : 0 < length fraction
  pub whole_digits : list_all is_ascii_digit whole ≡ true
  pub fraction_digits : list_all is_ascii_digit fraction ≡ true
  pub limit : fits ≡ (nat_le (length fraction) MAX_SCALE && is_small t)

-- with each quote as two
abbrev pub doubled : Text → Text
doubled [] = []
doubled (b ∷ c) = if b == QUOTE then QUOTE ∷ QUOTE ∷ doubled c else b ∷ doubled c

-- a quote, the content with each quote doubled, a quote; few enough bytes of content, and no control character
pub record SpellsText (t : Text) (fits : Bool) : Type 0 where
  pub content : Text
  pub is : t ≡ QUOTE ∷ doubled content ++ QUOTE ∷ []
  pub limit : fits ≡ (nat_le (length content) MAX_TEXT_BYTES && list_all is_plain content)

abbrev pub signs : List Text
signs =
    codes "(" ∷ codes ")" ∷ codes "[" ∷ codes "]" ∷ codes "," ∷ codes ";" ∷ codes "." ∷ codes "=" ∷ codes "<>" ∷ codes "!=" ∷
    codes "<=" ∷ codes ">=" ∷ codes "<" ∷ codes ">" ∷ codes "+" ∷ codes "-" ∷ codes "*" ∷ codes "/" ∷ codes "||" ∷ []

abbrev pub Spells : Sort → Text → Bool → Type 0
Spells sort.Word t fits = SpellsWord t fits
Spells sort.Number t fits = SpellsWhole t fits ⊎ SpellsFraction t fits
Spells sort.Text t fits = SpellsText t fits
Spells sort.Sign t fits = (list_any (bytes_eq t) signs ≡ true) × (fits ≡ true)
Spells sort.Bad t fits = ⊥

-- a token of this sort: Bad, or spelled as its sort says, with the limits kept
abbrev pub IsSpelled : Sort → Text → Type 0
IsSpelled s t = (s ≡ sort.Bad) ⊎ Spells s t true

-- no front of the text that is longer than n spells a token
abbrev pub NoneLonger : Text → ℕ → Type 0
NoneLonger z n = (k : Sort) (m : ℕ) (fits : Bool) → n < m → m ≤ length z → Spells k (take m z) fits → ⊥

-- the token at the front is the longest, and Bad where it passes a limit
pub record IsLongest (z : Text) (s : Sort) (n : ℕ) : Type 0 where
  pub spelled : Sort
  pub fits : Bool
  pub spells : Spells spelled (take n z) fits
  pub sort : s ≡ (if fits then spelled else sort.Bad)
  pub within : n ≤ length z
  pub longest : NoneLonger z n

-- no token is spelled at the front: a quote that nothing closes, up to the end; else one character
pub record IsUnreadable (z : Text) (s : Sort) (n : ℕ) : Type 0 where
  pub sort : s ≡ sort.Bad
  pub none : NoneLonger z 0
  pub quote : slice_index z 0 ≡ QUOTE → n ≡ length z
  pub other : slice_index z 0 ≢ QUOTE → n ≡ char_len z

-- what stands at the front is the longest token there, or cannot be read
abbrev pub IsTokenOf : Text → Front → Type 0
IsTokenOf z f = (s : Sort) × (f ≡ a_token s f.len) × (IsLongest z s f.len ⊎ IsUnreadable z s f.len)

-- a blank or a comment
abbrev pub begins_gap : Text → Bool
begins_gap z =
    is_blank (slice_index z 0) || (slice_index z 0 == MINUS && slice_index z 1 == MINUS)
    || (slice_index z 0 == SLASH && slice_index z 1 == STAR)
