-- What is left of a text.
use Rattle.std.specs.Prelude.{List}
use Rattle.std.specs.List.{filter_map}
use Rattle.mq_lexer.specs.declared.scanner.Rest.{Rest}
use Rattle.mq_lexer.specs.Lexemes.{Lexeme}
use Rattle.mq_lexer.specs.Tokens.{pieces_from, token_of}

-- the tokens that are left, from the line on which the rest begins
abbrev pub tokens_left : Rest → List Lexeme
tokens_left rest = filter_map token_of (pieces_from 0 rest.line rest.text.now)
