use Rattle.std.proofs.Common.{◌≡◌, take}
use Rattle.mq_delta_cells.proofs.starting.are_same_keys.Given as goal

-- those so far are the same
abbrev pub invariant-comparing : goal.invariant-comparing
invariant-comparing l = take l.i l.a ≡ take l.i l.b
