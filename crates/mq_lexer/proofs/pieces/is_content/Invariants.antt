use Rattle.std.proofs.Common.{◌≡◌, ◌+◌, ◌≤◌, length, ◌&&◌}
use Rattle.std.specs.Prelude.{nat_le}
use Rattle.std.specs.List.{list_all}
use Rattle.mq_lexer.specs.Quotes.{content, is_content, is_plain}
use Rattle.mq_lexer.proofs.pieces.is_content.Given as goal

abbrev pub invariant-loop-inner : goal.invariant-loop-inner
invariant-loop-inner l =
    ((nat_le (l.count + length (content l.behind_quote l.inner)) 256 && list_all is_plain (content l.behind_quote l.inner)) ≡ is_content l.initial.inner) × (l.count ≤ 256)

abbrev pub decreases-loop-inner : goal.decreases-loop-inner
decreases-loop-inner l = length l.inner
