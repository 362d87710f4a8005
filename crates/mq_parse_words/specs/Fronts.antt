-- What stands before a part that is read from there on.
use Rattle.std.specs.Prelude.{◌≡◌, ◌≢◌, ◌≤◌, ℕ, Bool, true, false, List, [], ◌∷◌, length, Option}
use Rattle.mq_values.specs.Number.{Number}
use Rattle.mq_values.specs.declared.operators.Agg.{Agg}
use Rattle.mq_values.specs.declared.operators.Agg.TheVariants as agg
use Rattle.mq_values.specs.declared.operators.CmpOp.{CmpOp}
use Rattle.mq_values.specs.declared.value.Kind.{Kind}
use Rattle.mq_lexer.specs.declared.sorts.Token.{Token}
use Rattle.mq_ast.specs.declared.expressions.Arm.{Arm}
use Rattle.mq_ast.specs.declared.expressions.E.{E}
use Rattle.mq_ast.specs.declared.expressions.E.TheVariants as e
use Rattle.mq_lexer.specs.declared.keywords.Keyword.TheVariants as word
use Rattle.mq_lexer.specs.declared.terminals.Symbol.TheVariants as sign
use Rattle.mq_lexer.specs.declared.terminals.Terminal.TheVariants as terminal
use Rattle.mq_ast.specs.Tokens.{Tok, Word, Aggregate, Sign, Name, Num, terminal_at, opener, closer, comma, star}
use Rattle.mq_ast.specs.Continuing.{Not}
use Rattle.mq_ast.specs.GrammarNames.{KindE, IsInt}
use Rattle.mq_ast.specs.GrammarExpression.{Expr, PrimE, TestTail, Whens, ElseE}
use Rattle.mq_parse_words.specs.declared.forms.IsTest.{IsTest}
use Rattle.mq_parse_words.specs.declared.forms.IsTest.TheVariants as is
use Rattle.mq_parse_words.specs.declared.forms.AggHead.{AggHead}
use Rattle.mq_parse_words.specs.declared.forms.AggHead.TheVariants as head
use Rattle.mq_parse_words.specs.Reading.{from}

-- '(' e ')'
pub data RoundE : E → List Tok → List Tok → Type 0 where
  round : {a : E} {from to : List Tok} → Expr a from (closer ∷ to) → RoundE a (opener ∷ from) to

-- a primary expression, read from behind its first token on
abbrev pub Behind : Tok → E → List Tok → List Tok → Type 0
Behind k a from to = PrimE a (k ∷ from) to

-- the rest of a test, read from behind its first tokens on
abbrev pub Since : (List Tok → List Tok) → E → E → List Tok → List Tok → Type 0
Since front a b from to = TestTail a b (front from) to

abbrev pub cmp_front : CmpOp → List Tok → List Tok
cmp_front op ts = Sign (sign.Cmp op) ∷ ts

abbrev pub not_front : List Tok → List Tok
not_front ts = Word word.Not ∷ ts

abbrev pub is_front : List Tok → List Tok
is_front ts = Word word.Is ∷ ts

abbrev pub between_front : Bool → List Tok → List Tok
between_front false ts = Word word.Between ∷ ts
between_front true ts = Word word.Not ∷ Word word.Between ∷ ts

abbrev pub in_front : Bool → List Tok → List Tok
in_front false ts = Word word.In ∷ ts
in_front true ts = Word word.Not ∷ Word word.In ∷ ts

-- what stands behind the word of an aggregate: '(' '*' ')' of COUNT, or '(' name ')' before '[', or neither
abbrev pub HeadsAll : Agg → List Token → ℕ → ℕ → Type 0
HeadsAll g t at next = (g ≡ agg.Count) × (at ≤ next) × (next ≤ length t) × (from t at ≡ opener ∷ star ∷ closer ∷ from t next)

abbrev pub NoAll : Agg → List Tok → Type 0
NoAll g ts = (us : List Tok) → g ≡ agg.Count → ts ≢ opener ∷ star ∷ closer ∷ us

abbrev pub HeadsCells : List ℕ → List Token → ℕ → ℕ → Type 0
HeadsCells n t at next =
    (at ≤ next) × (next ≤ length t) × (from t at ≡ opener ∷ Name n ∷ closer ∷ from t next)
    × (terminal_at (from t next) ≡ terminal.Sign sign.OpenSquare)

abbrev pub NoCells : List Tok → Type 0
NoCells ts = (n : List ℕ) (us : List Tok) → ts ≡ opener ∷ Name n ∷ closer ∷ us → Not (terminal.Sign sign.OpenSquare) us

abbrev pub Heads : Agg → AggHead → List Token → ℕ → Type 0
Heads g (head.All next) t at = HeadsAll g t at next
Heads g (head.Cells n next) t at = HeadsCells n.now t at next
Heads g head.Values t at = NoAll g (from t at) × NoCells (from t at)

-- the cells of an aggregate, read from '[' on
abbrev pub CellsOf : Agg → List ℕ → E → List Tok → List Tok → Type 0
CellsOf g n a from to = PrimE a (Aggregate g ∷ opener ∷ Name n ∷ closer ∷ from) to

-- AS kind ')'
pub data AsKind : Kind → List Tok → List Tok → Type 0 where
  as_kind : {k : Kind} {from to : List Tok} → KindE k from (closer ∷ to) → AsKind k (Word word.As ∷ from) to

-- ',' int ')'
pub data ToScale : Number → List Tok → List Tok → Type 0 where
  to_scale : {n : Number} {to : List Tok} → IsInt n → ToScale n (comma ∷ Num n ∷ closer ∷ to) to

-- WHEN stands here
abbrev pub AtWhen : List Tok → Type 0
AtWhen ts = terminal_at ts ≡ terminal.Word word.When

-- one arm or more
abbrev pub IsSome : List Arm → Type 0
IsSome [] = ⊥
IsSome (_ ∷ _) = Unit {0}

abbrev pub SomeWhens : List Arm → List Tok → List Tok → Type 0
SomeWhens xs from to = IsSome xs × Whens xs from to

-- [ELSE e] END
abbrev pub ElseEnd : Option E → List Tok → List Tok → Type 0
ElseEnd o from to = ElseE o from (Word word.End ∷ to)

-- NULL | PRESENT, with what stands before it
pub data NullOrPresent : Bool → IsTest → List Tok → List Tok → Type 0 where
  asks_null : {not : Bool} {to : List Tok} → NullOrPresent not (is.Null not) (Word word.Null ∷ to) to
  asks_present : {not : Bool} {to : List Tok} → NullOrPresent not (is.Present not) (Word word.Present ∷ to) to

-- ANY | [NOT] (NULL | PRESENT)
pub data IsTestE : IsTest → List Tok → List Tok → Type 0 where
  asks_any : {to : List Tok} → IsTestE is.Any (Word word.Any ∷ to) to
  asks : {test : IsTest} {from to : List Tok} → NullOrPresent false test from to → IsTestE test from to
  asks_not : {test : IsTest} {from to : List Tok} → NullOrPresent true test from to → IsTestE test (Word word.Not ∷ from) to

-- the test by IS of an expression
abbrev pub judged : IsTest → E → E
judged (is.Null not) a = e.IsNull a not
judged (is.Present not) a = e.IsPresent a not
judged is.Any a = e.IsAny a
