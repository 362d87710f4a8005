-- The statements of a token list: the lists between `;` signs, empty ones left out.
use Rattle.std.specs.Prelude.{◌≡◌, ℕ, ◌<◌, ◌≤◌, Bool, not, if◌then◌else◌, List, [], ◌∷◌, length, map, drop, Option, Some, None}
use Rattle.std.specs.List.{filter_map}
use Rattle.mq_lexer.specs.declared.script.Statement as code
use Rattle.mq_lexer.specs.declared.sorts.Token.{Token}
use Rattle.mq_lexer.specs.Classes.{is_semicolon_class}
use Rattle.mq_lexer.specs.Lexemes.{Lexeme, lexeme}

-- a statement, and the line of its first token
pub record Statement : Type 0 where
  pub tokens : List Lexeme
  pub line : ℕ

abbrev pub is_semicolon : Lexeme → Bool
is_semicolon t = is_semicolon_class t.terminal

abbrev pub put_first : Lexeme → List (List Lexeme) → List (List Lexeme)
put_first t [] = (t ∷ []) ∷ []
put_first t (p ∷ ps) = (t ∷ p) ∷ ps

-- the lists between the `;` signs, with the one behind the last
abbrev pub parts : List Lexeme → List (List Lexeme)
parts [] = [] ∷ []
parts (t ∷ ts) = if is_semicolon t then [] ∷ parts ts else put_first t (parts ts)

-- a list that is not empty is a statement
abbrev pub statement_of : List Lexeme → Option Statement
statement_of [] = None
statement_of (t ∷ ts) = Some (record { tokens = t ∷ ts; line = t.line })

unfoldable pub statements : List Lexeme → List Statement
statements ts = filter_map statement_of (parts ts)

-- a statement without where its tokens lie
abbrev pub statement : code.Statement → Statement
statement s = record { tokens = map lexeme s.tokens.now; line = s.line }

-- the first statement from a place on, and the place behind it
abbrev pub Next : List Lexeme → ℕ → Option (code.Statement × ℕ) → Type 0
Next all at None = statements (drop at all) ≡ []
Next all at (Some r) =
    (at < r.1) × (r.1 ≤ length all) × (statements (drop at all) ≡ statement r.0 ∷ statements (drop r.1 all))

-- a token of the list that ends a statement, and one that does not
abbrev pub is_break : Token → Bool
is_break t = is_semicolon (lexeme t)

abbrev pub is_no_break : Token → Bool
is_no_break t = not (is_break t)
