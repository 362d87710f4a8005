-- What lines are put together from.
use Rattle.std.specs.Prelude.{ℕ, ◌≡◌, List, ◌++◌, length, take, decimal, codes}
use Rattle.std.specs.List.{flat_map, join_by}
use Rattle.mq_values.specs.Print.{printed}
use Rattle.mq_render.specs.declared.pieces.Piece.{Piece}
use Rattle.mq_render.specs.declared.pieces.Piece.TheVariants as piece

-- the text of a piece: words as they stand, a number in decimal, or printed values with a separator between them
abbrev pub piece_text : Piece → List ℕ
piece_text (piece.Words text) = text.now
piece_text (piece.Number n) = decimal n
piece_text (piece.Values values separator) = join_by printed separator.now values.now

abbrev pub text_of_pieces : List Piece → List ℕ
text_of_pieces = flat_map piece_text

-- what was there before stands in front
abbrev pub BeginsWith : List ℕ → List ℕ → Type 0
BeginsWith all front = take (length front) all ≡ front

-- a word and a number as a line
abbrev pub counted : List ℕ → ℕ → List ℕ
counted word n = word ++ (decimal n ++ codes "\n")
