-- Tokens as the grammar reads them, without the place where they lie.
use Rattle.std.specs.Prelude.{ℕ, List, [], ◌∷◌}
use Rattle.mq_values.specs.Number.{Number}
use Rattle.mq_lexer.specs.declared.keywords.Keyword.{Keyword}
use Rattle.mq_values.specs.declared.operators.Agg.{Agg}
use Rattle.mq_lexer.specs.declared.terminals.Symbol.{Symbol}
use Rattle.mq_lexer.specs.declared.terminals.Symbol.TheVariants as sign
use Rattle.mq_values.specs.declared.operators.CmpOp.TheVariants as cmp
use Rattle.mq_values.specs.declared.operators.SumOp.TheVariants as sum
use Rattle.mq_values.specs.declared.operators.ProdOp.TheVariants as prod
use Rattle.mq_lexer.specs.declared.terminals.Terminal.{Terminal}
use Rattle.mq_lexer.specs.declared.terminals.Terminal.TheVariants as terminal

-- a keyword, an aggregate, a sign, a name as it is spelled, a number, the content of a text, or what no line of the grammar reads
pub data Tok : Type 0 where
  Word : Keyword → Tok
  Aggregate : Agg → Tok
  Sign : Symbol → Tok
  Name : List ℕ → Tok
  Num : Number → Tok
  Text : List ℕ → Tok
  Bad : Tok

-- what the first token is
abbrev pub terminal_at : List Tok → Terminal
terminal_at [] = terminal.Nothing
terminal_at (Word k ∷ _) = terminal.Word k
terminal_at (Aggregate g ∷ _) = terminal.Aggregate g
terminal_at (Sign s ∷ _) = terminal.Sign s
terminal_at (Name _ ∷ _) = terminal.Name
terminal_at (Num _ ∷ _) = terminal.Number
terminal_at (Text _ ∷ _) = terminal.Text
terminal_at (Bad ∷ _) = terminal.Bad

-- the tokens after the first
abbrev pub rest_of : List Tok → List Tok
rest_of [] = []
rest_of (_ ∷ ts) = ts

-- the signs by their names
abbrev pub opener : Tok
opener = Sign sign.Open

abbrev pub closer : Tok
closer = Sign sign.Close

abbrev pub open_square : Tok
open_square = Sign sign.OpenSquare

abbrev pub close_square : Tok
close_square = Sign sign.CloseSquare

abbrev pub comma : Tok
comma = Sign sign.Comma

abbrev pub point : Tok
point = Sign sign.Point

abbrev pub equal : Tok
equal = Sign (sign.Cmp cmp.Eq)

abbrev pub minus : Tok
minus = Sign (sign.Sum sum.Sub)

abbrev pub star : Tok
star = Sign (sign.Prod prod.Mul)
