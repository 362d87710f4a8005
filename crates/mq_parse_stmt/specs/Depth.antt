-- When a statement is too deep.
use Rattle.std.specs.Prelude.{ℕ, ◌+◌, ◌<◌, Bool, true, false, List, [], ◌∷◌, length, filter, take}
use Rattle.mq_values.specs.declared.limits.TheConstants.{MAX_DEPTH}
use Rattle.mq_lexer.specs.declared.terminals.Terminal.{Terminal}
use Rattle.mq_lexer.specs.declared.terminals.Symbol.TheVariants as sign
use Rattle.mq_lexer.specs.declared.terminals.Terminal.TheVariants as terminal
use Rattle.mq_lexer.specs.declared.keywords.Keyword.TheVariants as word
use Rattle.mq_ast.specs.Prelude.{Tok, terminal_at}

-- '(', '[' and CASE open a level
abbrev pub opens : Terminal → Bool
opens (terminal.Sign sign.Open) = true
opens (terminal.Sign sign.OpenSquare) = true
opens (terminal.Word word.Case) = true
opens _ = false

-- ')', ']' and END close one
abbrev pub closes : Terminal → Bool
closes (terminal.Sign sign.Close) = true
closes (terminal.Sign sign.CloseSquare) = true
closes (terminal.Word word.End) = true
closes _ = false

-- how many tokens are of such a kind
abbrev pub count : (Terminal → Bool) → List Tok → ℕ
count p ts = length (filter (λ k. p (terminal_at (k ∷ []))) ts)

-- among the first n tokens those that open are more than the limit ahead of those that close
abbrev pub Over : ℕ → List Tok → Type 0
Over n ts = count closes (take n ts) + MAX_DEPTH < count opens (take n ts)

abbrev pub TooDeep : List Tok → Type 0
TooDeep ts = (n : ℕ) × Over n ts
