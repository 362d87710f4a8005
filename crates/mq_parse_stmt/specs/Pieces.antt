-- Parts of statements that have readers of their own. R a from to: a reads the tokens of `from` before `to`.
use Rattle.std.specs.Prelude.{◌≡◌, ℕ, List, ◌∷◌, Option, Some, None}
use Rattle.mq_ast.specs.declared.statements.ColDef.{ColDef}
use Rattle.mq_ast.specs.declared.expressions.E.{E}
use Rattle.mq_lexer.specs.declared.keywords.Keyword.{Keyword}
use Rattle.mq_lexer.specs.declared.keywords.Keyword.TheVariants as word
use Rattle.mq_lexer.specs.declared.terminals.Symbol.TheVariants as sign
use Rattle.mq_lexer.specs.declared.terminals.Terminal.TheVariants as terminal
use Rattle.mq_lexer.specs.declared.sorts.Token.{Token}
use Rattle.mq_ast.specs.Prelude.{ColE, Exprs, MaybeNames, MaybePart, Name, Not, PrimaryE, SetE, SomeOf, Tok, WhereE, Word}
use Rattle.mq_ast.specs.Prelude.{close_square, closer, comma, open_square, opener, point, rest_of, terminal_at}
use Rattle.mq_parse_words.specs.Reading.{from, Then}

-- this word and the name behind it
pub data WordName : Keyword → List ℕ → List Tok → List Tok → Type 0 where
  word_name : {k : Keyword} {n : List ℕ} {to : List Tok} → WordName k n (Word k ∷ Name n ∷ to) to

-- [',' PRIMARY KEY '(' names ')'] ')'
abbrev pub KeyEnd : List (List ℕ) → List Tok → List Tok → Type 0
KeyEnd ks from to = PrimaryE ks from (closer ∷ to)

-- the same, read from behind the comma on
abbrev pub KeyBehind : List (List ℕ) → List Tok → List Tok → Type 0
KeyBehind ks from to = KeyEnd ks (comma ∷ from) to

-- '(' col {',' col} [',' PRIMARY KEY '(' names ')'] ')'
pub data Body : List ColDef × List (List ℕ) → List Tok → List Tok → Type 0 where
  body : {cs : List ColDef} {ks : List (List ℕ)} {from mid to : List Tok} →
      SomeOf ColE cs from mid → KeyEnd ks mid to → Body (cs, ks) (opener ∷ from) to

-- ['(' names ')'] VALUES
abbrev pub NamesValues : Option (List (List ℕ)) → List Tok → List Tok → Type 0
NamesValues o from to = MaybeNames o from (Word word.Values ∷ to)

-- name '=' e {',' name '=' e} [WHERE e]
pub data Changes : List (List ℕ × E) × Option E → List Tok → List Tok → Type 0 where
  changes : {xs : List (List ℕ × E)} {o : Option E} {from mid to : List Tok} →
      SomeOf SetE xs from mid → WhereE o mid to → Changes (xs, o) from to

-- a comma stands here that PRIMARY does not follow, and the other place is behind it; or none does
abbrev pub NextCol : List Token → ℕ → Option ℕ → Type 0
NextCol t at (Some next) = Then comma t at next × Not (terminal.Word word.Primary) (from t next)
NextCol t at None = terminal_at (from t at) ≡ terminal.Sign sign.Comma → terminal_at (rest_of (from t at)) ≡ terminal.Word word.Primary

-- CELL name '.' name
pub data Measure : List ℕ × List ℕ → List Tok → List Tok → Type 0 where
  measure : {n m : List ℕ} {to : List Tok} → Measure (n, m) (Word word.Cell ∷ Name n ∷ point ∷ Name m ∷ to) to

-- [PARTITION tuple] '['
abbrev pub PartOpen : List E → List Tok → List Tok → Type 0
PartOpen ps from to = MaybePart ps from (open_square ∷ to)

-- e {',' e} ']'
abbrev pub ValuesEnd : List E → List Tok → List Tok → Type 0
ValuesEnd xs from to = Exprs xs from (close_square ∷ to)

-- [PARTITION tuple] '[' e {',' e} ']'
pub data Spot : List E × List E → List Tok → List Tok → Type 0 where
  spot : {ps xs : List E} {from mid to : List Tok} → PartOpen ps from mid → ValuesEnd xs mid to → Spot (ps, xs) from to
