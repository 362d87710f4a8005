-- How a token of the lexer becomes a token of the grammar.
use Rattle.std.specs.Prelude.{◌≡◌, ℕ, Bool, true, false, if◌then◌else◌, ◌==◌, pos, Option, Some, None}
use Rattle.std.specs.Prelude.{List, [], ◌∷◌, ◌++◌, length, map, codes}
use Rattle.std.specs.Char.{is_ascii_digit}
use Rattle.std.specs.List.{fold, list_all}
use Rattle.std.specs.Option.{option_map}
use Rattle.mq_values.specs.Bytes.{QUOTE}
use Rattle.mq_values.specs.Number.{Number}
use Rattle.mq_values.specs.Text.{is_text}
use Rattle.mq_lexer.specs.declared.sorts.Sort.{Sort}
use Rattle.mq_lexer.specs.declared.sorts.Sort.TheVariants as sort
use Rattle.mq_lexer.specs.declared.sorts.Token.{Token}
use Rattle.mq_lexer.specs.Words.{reserved_of}
use Rattle.mq_lexer.specs.Classes.{symbol_of}
use Rattle.mq_lexer.specs.Numbers.{number_of, with_digit}
use Rattle.mq_lexer.specs.Spelling.{doubled}
use Rattle.mq_lexer.specs.declared.terminals.Symbol.{Symbol}
use Rattle.mq_lexer.specs.declared.terminals.Terminal.{Terminal}
use Rattle.mq_lexer.specs.declared.terminals.Terminal.TheVariants as terminal
use Rattle.mq_ast.specs.Tokens.{Tok, Word, Aggregate, Sign, Name, Num, Text, Bad}

-- What stands behind the first quote of a text, with each doubled quote as one; None where it is not spelled as a text.
-- `behind_quote`: a quote stands right before, which is the closing one at the end and else the first of two.
abbrev pub unquoted : Bool → List ℕ → Option (List ℕ)
unquoted false [] = None
unquoted true [] = Some []
unquoted false (b ∷ z) = if b == QUOTE then unquoted true z else option_map (λ c. b ∷ c) (unquoted false z)
unquoted true (b ∷ z) = if b == QUOTE then option_map (λ c. b ∷ c) (unquoted false z) else None

-- what stands between the quotes of a text
abbrev pub content_of : List ℕ → Option (List ℕ)
content_of [] = None
content_of (b ∷ z) = if b == QUOTE then unquoted false z else None

-- A number and a text by their spelling. Each token of a text that is one has a spelling that makes one (`tokens_are_read`); another
-- would be 0 or empty.
abbrev pub number_or_zero : Option Number → Number
number_or_zero None = record { mant = pos 0; scale = 0 }
number_or_zero (Some n) = n

abbrev pub text_or_empty : Option (List ℕ) → List ℕ
text_or_empty None = []
text_or_empty (Some c) = if is_text c then c else []

-- a token of this class and spelling; a name as it is spelled
abbrev pub tok : Terminal → List ℕ → Tok
tok (terminal.Word k) z = Word k
tok (terminal.Aggregate g) z = Aggregate g
tok (terminal.Sign s) z = Sign s
tok terminal.Name z = Name z
tok terminal.Number z = Num (number_or_zero (number_of z))
tok terminal.Text z = Text (text_or_empty (content_of z))
tok terminal.Bad z = Bad
tok terminal.Nothing z = Bad

abbrev pub tok_of : Token → Tok
tok_of t = tok t.terminal t.text.now

-- a list of tokens without where they lie
abbrev pub toks : List Token → List Tok
toks ts = map tok_of ts

-- ---- what the tokens of a text are

abbrev pub with_point : List ℕ → List ℕ
with_point [] = []
with_point (b ∷ fraction) = codes "." ++ b ∷ fraction

-- digits, or digits, a point and digits: all digits together are the mantissa, and the scale counts those behind the point
pub record ReadsNumber (z : List ℕ) (t : Tok) : Type 0 where
  pub whole : List ℕ
  pub fraction : List ℕ
  pub spelled : z ≡ whole ++ with_point fraction
  pub digits : list_all is_ascii_digit (whole ++ fraction) ≡ true
  pub is : t ≡ Num (record { mant = pos (fold with_digit 0 (whole ++ fraction)); scale = length fraction })

-- the content, from between the quotes
pub record ReadsText (z : List ℕ) (t : Tok) : Type 0 where
  pub content : List ℕ
  pub spelled : z ≡ codes "'" ++ (doubled content ++ codes "'")
  pub is : t ≡ Text content

-- a keyword or an aggregate of the table of reserved words; a word that is not there is a name, as it is spelled
abbrev pub ReadsWord : List ℕ → Option Terminal → Tok → Type 0
ReadsWord z None t = t ≡ Name z
ReadsWord z (Some (terminal.Word k)) t = t ≡ Word k
ReadsWord z (Some (terminal.Aggregate g)) t = t ≡ Aggregate g
ReadsWord z (Some _) t = ⊥

-- a sign of the table
pub record ReadsSign (z : List ℕ) (t : Tok) : Type 0 where
  pub symbol : Symbol
  pub spelled : symbol_of z ≡ Some symbol
  pub is : t ≡ Sign symbol

-- what a token of this sort and spelling is for the grammar
abbrev pub Reads : Sort → List ℕ → Tok → Type 0
Reads sort.Word z t = ReadsWord z (reserved_of z) t
Reads sort.Number z t = ReadsNumber z t
Reads sort.Text z t = ReadsText z t
Reads sort.Sign z t = ReadsSign z t
Reads sort.Bad z t = t ≡ Bad
