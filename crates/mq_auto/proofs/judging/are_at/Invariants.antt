use Rattle.std.proofs.Common.{◌≡◌, take}
use Rattle.std.specs.Map.{keys_of}
use Rattle.mq_auto.proofs.judging.are_at.Given as goal

-- those so far are
abbrev pub invariant-loop-i : goal.invariant-loop-i
invariant-loop-i l = keys_of (take l.i l.cells) ≡ take l.i l.keys
