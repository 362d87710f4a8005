use Rattle.std.proofs.Common.{◌≡◌, drop, map}
use Rattle.std.specs.Char.{to_ascii_uppercase}
use Rattle.std.specs.Str.{bytes_eq}
use Rattle.mq_lexer.specs.Words.{folded}
use Rattle.mq_csvload.proofs.header.is_name.Given as goal

abbrev pub invariant-loop-i : goal.invariant-loop-i
invariant-loop-i l = bytes_eq (drop l.i l.name) (map to_ascii_uppercase (drop l.i l.field)) ≡ bytes_eq l.name (folded l.field)
