use Rattle.std.proofs.Common.{◌≡◌, ◌++◌, IsUtf8, length, map}
use Rattle.mq_lexer.specs.Lexemes.{lexeme}
use Rattle.mq_lexer.specs.Rests.{tokens_left}
use Rattle.mq_lexer.specs.Tokens.{tokens}
use Rattle.mq_lexer.proofs.scanner.tokens.Given as goal

abbrev pub invariant-loop-rest : goal.invariant-loop-rest
invariant-loop-rest l = (map lexeme l.found.items ++ tokens_left l.rest ≡ tokens l.text) × IsUtf8 l.rest.text.now

abbrev pub decreases-loop-rest : goal.decreases-loop-rest
decreases-loop-rest l = length l.rest.text.now
