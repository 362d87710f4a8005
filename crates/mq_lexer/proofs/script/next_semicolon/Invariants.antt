use Rattle.std.proofs.Common.{◌≡◌, ◌+◌, ◌-◌, ◌≤◌, length, drop}
use Rattle.std.specs.List.{prefix_len}
use Rattle.mq_lexer.specs.Statements.{is_no_break}
use Rattle.mq_lexer.proofs.script.next_semicolon.Given as goal

abbrev pub invariant-loop-end : goal.invariant-loop-end
invariant-loop-end l =
    (l.end + prefix_len is_no_break (drop l.end l.tokens) ≡ l.at + prefix_len is_no_break (drop l.at l.tokens)) × (l.at ≤ l.end) × (l.end ≤ length l.tokens)

abbrev pub decreases-loop-end : goal.decreases-loop-end
decreases-loop-end l = length l.tokens - l.end
