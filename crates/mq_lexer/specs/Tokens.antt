-- The tokens of a text.
use Rattle.std.specs.Prelude.{ℕ, zero, suc, ◌+◌, ◌-◌, ◌^◌, min, Bool, true, false, if◌then◌else◌, ◌==◌, List, [], ◌∷◌, take, Option}
use Rattle.std.specs.List.{filter_map}
use Rattle.std.specs.Option.{option_map}
use Rattle.mq_values.specs.Bytes.{LINE_FEED}
use Rattle.mq_lexer.specs.declared.sorts.Sort.{Sort}
use Rattle.mq_lexer.specs.declared.sorts.Sort.TheVariants as sort
use Rattle.mq_lexer.specs.declared.sorts.Front.{Front}
use Rattle.mq_lexer.specs.Classes.{class_of}
use Rattle.mq_lexer.specs.Lexemes.{Lexeme}
use Rattle.mq_lexer.specs.Pieces.{front}
-- the words for the parts of a text
pub use Rattle.mq_lexer.specs.Fronts.{Text}
pub use Rattle.mq_lexer.specs.Numbers.{with_digit, is_small, places, number_of, is_number}

-- there the count of lines stands still
abbrev pub LAST_LINE : ℕ
LAST_LINE = 2 ^ 32 - 1

-- the line behind a byte: LF begins the next one
abbrev pub line_after : ℕ → ℕ → ℕ
line_after line b = if b == LINE_FEED then min (line + 1) LAST_LINE else line

-- a piece of the text: a token, or what separates tokens where there is no sort
pub record Piece : Type 0 where
  pub sort : Option Sort
  pub text : Text
  pub line : ℕ

abbrev pub piece : Front → Text → ℕ → Piece
piece f z line = record { sort = f.sort; text = take f.len z; line = line }

-- The pieces from a line on. `skip` counts the bytes that are left of the piece before.
abbrev pub pieces_from : ℕ → ℕ → Text → List Piece
pieces_from skip line [] = []
pieces_from (suc skip) line (b ∷ z) = pieces_from skip (line_after line b) z
pieces_from zero line (b ∷ z) =
    piece (front (b ∷ z)) (b ∷ z) line ∷ pieces_from ((front (b ∷ z)).len - 1) (line_after line b) z

unfoldable pub pieces : Text → List Piece
pieces z = pieces_from 0 1 z

-- a piece that has a sort is a token, of the class of its spelling
abbrev pub token_at : Option Sort → Text → ℕ → Option Lexeme
token_at s text line = option_map (λ s. record { sort = s; text = text; line = line; terminal = class_of s text }) s

abbrev pub token_of : Piece → Option Lexeme
token_of p = token_at p.sort p.text p.line

unfoldable pub tokens : Text → List Lexeme
tokens z = filter_map token_of (pieces z)

-- a word, a number or a sign
abbrev pub is_readable : Sort → Bool
is_readable sort.Word = true
is_readable sort.Number = true
is_readable sort.Sign = true
is_readable _ = false
