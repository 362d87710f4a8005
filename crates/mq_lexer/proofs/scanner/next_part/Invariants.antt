use Rattle.std.proofs.Common.{◌≡◌, ◌≤◌, ◌++◌, IsUtf8, false, length, map}
use Rattle.std.specs.List.{list_any}
use Rattle.mq_lexer.specs.Lexemes.{lexeme}
use Rattle.mq_lexer.specs.Rests.{tokens_left}
use Rattle.mq_lexer.specs.Statements.{is_semicolon}
use Rattle.mq_lexer.proofs.scanner.next_part.Given as goal

abbrev pub invariant-loop-left : goal.invariant-loop-left
invariant-loop-left l =
    (tokens_left l.rest ≡ map lexeme l.found.items ++ tokens_left l.left)
    × (list_any is_semicolon (map lexeme l.found.items) ≡ false)
    × IsUtf8 l.left.text.now
    × (length l.left.text.now ≤ length l.rest.text.now)

abbrev pub decreases-loop-left : goal.decreases-loop-left
decreases-loop-left l = length l.left.text.now
