use Rattle.std.proofs.Common.{◌≡◌, ◌++◌, false, length}
use Rattle.std.specs.Option.{option_map}
use Rattle.std.specs.String.{string_bytes}
use denote.Shadow.{shadow}
use denote.Text.{Utf8}
use Rattle.mq_ast.specs.Spelling.{unquoted}
use Rattle.mq_parse_words.proofs.spelling.unquoted.Given as goal

abbrev pub invariant-loop-piece : goal.invariant-loop-piece
invariant-loop-piece l =
    shadow (Utf8 l.rest) × (option_map (λ c. string_bytes l.content ++ c) (unquoted false l.rest) ≡ unquoted false l.initial.rest)

abbrev pub decreases-loop-piece : goal.decreases-loop-piece
decreases-loop-piece l = length l.rest
