-- Words and steps that the proofs of one tree share.
use Rattle.std.proofs.Common.{◌≡◌, ℕ, ◌≤◌, List, ◌∷◌, Option, None, Some, sym, subst}
use Rattle.mq_lexer.specs.declared.keywords.Keyword.{Keyword}
use Rattle.mq_lexer.specs.declared.keywords.Keyword.TheVariants as word
use Rattle.mq_values.specs.declared.operators.Func.{Func}
use Rattle.mq_lexer.specs.declared.terminals.Symbol.TheVariants as sign
use Rattle.mq_values.specs.declared.operators.SumOp.TheVariants as op
use Rattle.mq_lexer.specs.declared.terminals.Terminal.{Terminal}
use Rattle.mq_lexer.specs.declared.terminals.Terminal.TheVariants.{Word, Aggregate, Sign, Name, Number, Text}
use Rattle.mq_ast.specs.Tokens.{Tok, terminal_at}
use Rattle.mq_ast.specs.Calls.{call_of}

-- equal values that end at equal places
abbrev pub Same : {A : Type 0} → A → A → List Tok → List Tok → Type 0
Same a b to to' = (a ≡ b) × (to ≡ to')

pub same_flip : {A : Type 0} {a b : A} {to to' : List Tok} → Same a b to to' → Same b a to' to
same_flip p = (sym p.0, sym p.1)

-- a fact that begins where another ends
abbrev pub begin : {A : Type 0} (R : A → List Tok → List Tok → Type 0) {x : A} {from from' to : List Tok} → from ≡ from' → R x from' to → R x from to
begin R {x} {from} {from'} {to} e d = let P : List Tok → Type 0 = λ m. R x m to in subst P (sym e) d

pub none_some : {A : Type 0} {a : A} → None ≡ Some a → ⊥
none_some e = cc

pub cut : {k k' : Tok} {xs ys : List Tok} → k ∷ xs ≡ k' ∷ ys → xs ≡ ys
cut e = cc

-- what a token can begin: a primary expression, one with a sign, an expression, or none of these
abbrev pub PRIMARY : ℕ
PRIMARY = 1

abbrev pub SIGNED : ℕ
SIGNED = 2

abbrev pub WHOLE : ℕ
WHOLE = 3

abbrev pub NOTHING : ℕ
NOTHING = 4

abbrev pub first_word : Option (Func × ℕ) → Keyword → ℕ
first_word (Some _) _ = PRIMARY
first_word None word.Null = PRIMARY
first_word None word.Date = PRIMARY
first_word None word.Case = PRIMARY
first_word None word.Cast = PRIMARY
first_word None word.Round = PRIMARY
first_word None word.Cv = PRIMARY
first_word None word.IterationNumber = PRIMARY
first_word None word.Previous = PRIMARY
first_word None word.Presentv = PRIMARY
first_word None word.Presentnnv = PRIMARY
first_word None word.Not = WHOLE
first_word None _ = NOTHING

abbrev pub first : Terminal → ℕ
first Name = PRIMARY
first Number = PRIMARY
first Text = PRIMARY
first (Sign sign.Open) = PRIMARY
first (Word k) = first_word (call_of k) k
first (Aggregate _) = PRIMARY
first (Sign (sign.Sum op.Sub)) = SIGNED
first _ = NOTHING

abbrev pub Begins : ℕ → List Tok → Type 0
Begins n ts = first (terminal_at ts) ≤ n
