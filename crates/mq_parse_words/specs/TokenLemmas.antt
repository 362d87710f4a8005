-- The tokens from a place on, one by one.
use Rattle.std.proofs.Common.{◌≡◌, ℕ, zero, suc, add-one, ◌+◌, List, [], ◌∷◌, refl, ap, ◌∙◌}
use Rattle.mq_lexer.specs.declared.sorts.Token.{Token}
use Rattle.mq_lexer.specs.declared.keywords.Keyword.{Keyword}
use Rattle.mq_lexer.specs.declared.terminals.Symbol.{Symbol}
use Rattle.mq_lexer.specs.declared.terminals.Terminal.{Terminal}
use Rattle.mq_lexer.specs.declared.terminals.Terminal.TheVariants as terminal
use Rattle.mq_ast.specs.Tokens.{Tok, Word, Sign, terminal_at, rest_of}
use Rattle.mq_ast.specs.Spelling.{tok}
use Rattle.mq_parse_words.specs.Reading.{from}

pub next : (t : List Token) (at : ℕ) → rest_of (from t at) ≡ from t (at + 1)
next [] zero = refl
next [] (suc n) = rw add-one refl
next (k ∷ t) zero = refl
next (k ∷ t) (suc n) = rw add-one (rw add-one at (next t n))

split_word : (ts : List Tok) (k : Keyword) → terminal_at ts ≡ terminal.Word k → ts ≡ Word k ∷ rest_of ts
split_word [] k e = cc
split_word (Word _ ∷ ts) k e = cc
split_word (_ ∷ ts) k e = cc

split_sign : (ts : List Tok) (s : Symbol) → terminal_at ts ≡ terminal.Sign s → ts ≡ Sign s ∷ rest_of ts
split_sign [] s e = cc
split_sign (Sign _ ∷ ts) s e = cc
split_sign (_ ∷ ts) s e = cc

pub word_next : (t : List Token) (at : ℕ) (k : Keyword) → terminal_at (from t at) ≡ terminal.Word k → from t at ≡ Word k ∷ from t (at + 1)
word_next t at k e = split_word (from t at) k e ∙ ap (λ r. Word k ∷ r) (next t at)

pub sign_next : (t : List Token) (at : ℕ) (s : Symbol) → terminal_at (from t at) ≡ terminal.Sign s → from t at ≡ Sign s ∷ from t (at + 1)
sign_next t at s e = split_sign (from t at) s e ∙ ap (λ r. Sign s ∷ r) (next t at)

-- a token carries what it is for the grammar
pub carried : (s : Terminal) (z : List ℕ) → (s ≡ terminal.Nothing → ⊥) → s ≡ terminal_at (tok s z ∷ [])
carried (terminal.Word k) z n = refl
carried (terminal.Aggregate g) z n = refl
carried (terminal.Sign s) z n = refl
carried terminal.Name z n = refl
carried terminal.Number z n = refl
carried terminal.Text z n = refl
carried terminal.Bad z n = refl
carried terminal.Nothing z n = absurd (n refl)
