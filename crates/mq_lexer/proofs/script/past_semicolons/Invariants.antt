use Rattle.std.proofs.Common.{◌≡◌, ◌+◌, ◌-◌, ◌≤◌, length, drop}
use Rattle.std.specs.List.{prefix_len}
use Rattle.mq_lexer.specs.Statements.{is_break}
use Rattle.mq_lexer.proofs.script.past_semicolons.Given as goal

abbrev pub invariant-loop-from : goal.invariant-loop-from
invariant-loop-from l =
    (l.from + prefix_len is_break (drop l.from l.tokens) ≡ l.at + prefix_len is_break (drop l.at l.tokens)) × (l.at ≤ l.from) × (l.from ≤ length l.tokens)

abbrev pub decreases-loop-from : goal.decreases-loop-from
decreases-loop-from l = length l.tokens - l.from
