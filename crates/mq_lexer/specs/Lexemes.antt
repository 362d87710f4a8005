-- Tokens as plain data: their sort, their bytes, the line that they begin on, and what they are for the grammar.
use Rattle.std.specs.Prelude.{ℕ, List}
use Rattle.mq_lexer.specs.declared.sorts.Sort.{Sort}
use Rattle.mq_lexer.specs.declared.sorts.Token.{Token}
use Rattle.mq_lexer.specs.declared.terminals.Terminal.{Terminal}

pub record Lexeme : Type 0 where
  pub sort : Sort
  pub text : List ℕ
  pub line : ℕ
  pub terminal : Terminal

-- a token without where it lies
abbrev pub lexeme : Token → Lexeme
lexeme t = record { sort = t.sort; text = t.text.now; line = t.line; terminal = t.terminal }
