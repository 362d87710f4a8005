use Rattle.std.proofs.Common.{◌≡◌, drop, false}
use Rattle.std.specs.Option.{option_or}
use Rattle.mq_lexer.specs.Quotes.{closing}
use Rattle.mq_lexer.proofs.PlaceLemmas.{from_place}
use Rattle.mq_lexer.proofs.pieces.closing.Given as goal

abbrev pub invariant-loop-at : goal.invariant-loop-at
invariant-loop-at l = option_or (from_place l.at (closing l.behind_quote (drop l.at l.z))) l.found ≡ closing false l.z
