-- What texts are put together from.
use Rattle.std.specs.Prelude.{ℕ, ◌≡◌, ◌/◌, ◌%◌, List, ◌++◌, length, take, decimal, codes}
use Rattle.std.specs.List.{flat_map}
use Rattle.mq_generate.specs.declared.pieces.Piece.{Piece}
use Rattle.mq_generate.specs.declared.pieces.Piece.TheVariants as piece
use Rattle.mq_generate.specs.declared.pieces.TheConstants.{HUNDREDTHS, DIGITS}

-- hundredths below a whole: a point and two digits
abbrev pub fraction_text : ℕ → List ℕ
fraction_text fraction = codes "." ++ (decimal (fraction / DIGITS) ++ decimal (fraction % DIGITS))

-- so many hundredths
abbrev pub amount_text : ℕ → List ℕ
amount_text amount = decimal (amount / HUNDREDTHS) ++ fraction_text (amount % HUNDREDTHS)

abbrev pub piece_text : Piece → List ℕ
piece_text (piece.Words text) = text.now
piece_text (piece.Bytes bytes) = bytes.now
piece_text (piece.Number n) = decimal n
piece_text (piece.Amount n) = amount_text n

abbrev pub text_of_pieces : List Piece → List ℕ
text_of_pieces = flat_map piece_text

-- what was there before stands in front
abbrev pub BeginsWith : List ℕ → List ℕ → Type 0
BeginsWith all front = take (length front) all ≡ front
