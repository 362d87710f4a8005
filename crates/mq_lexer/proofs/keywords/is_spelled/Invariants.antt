use Rattle.std.proofs.Common.{◌≡◌, drop, map}
use Rattle.std.specs.Char.{to_ascii_uppercase}
use Rattle.std.specs.Str.{bytes_eq}
use Rattle.mq_lexer.specs.Words.{folded}
use Rattle.mq_lexer.proofs.keywords.is_spelled.Given as goal

abbrev pub invariant-loop-i : goal.invariant-loop-i
invariant-loop-i l = bytes_eq (drop l.i l.spelling) (map to_ascii_uppercase (drop l.i l.word)) ≡ bytes_eq l.spelling (folded l.word)
