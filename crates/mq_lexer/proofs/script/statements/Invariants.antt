use Rattle.std.proofs.Common.{◌≡◌, ◌-◌, ◌≤◌, ◌++◌, length, drop, map}
use Rattle.mq_lexer.specs.Lexemes.{lexeme}
use Rattle.mq_lexer.specs.Statements.{statement, statements}
use Rattle.mq_lexer.proofs.script.statements.Given as goal

abbrev pub invariant-loop-statement : goal.invariant-loop-statement
invariant-loop-statement l =
    (map statement l.found.items ++ statements (drop l.at (map lexeme l.tokens)) ≡ statements (map lexeme l.tokens)) × (l.at ≤ length l.tokens)

abbrev pub decreases-loop-statement : goal.decreases-loop-statement
decreases-loop-statement l = length l.tokens - l.at
