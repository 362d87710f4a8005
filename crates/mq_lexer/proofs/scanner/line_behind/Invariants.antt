use Rattle.std.proofs.Common.{◌≡◌, take}
use Rattle.std.specs.List.{fold}
use Rattle.mq_lexer.specs.Tokens.{line_after}
use Rattle.mq_lexer.proofs.scanner.line_behind.Given as goal

abbrev pub invariant-loop-b : goal.invariant-loop-b
invariant-loop-b l = l.now ≡ fold line_after l.line (take l.b-index l.text)
