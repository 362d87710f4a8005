use Rattle.std.proofs.Common.{◌≡◌, drop}
use Rattle.mq_ir.specs.Affected.{are_same_looks}
use Rattle.mq_delta_cells.proofs.seeds.are_same_looks.Given as goal

-- the rest decides
abbrev pub invariant-loop-i : goal.invariant-loop-i
invariant-loop-i l = are_same_looks l.a l.b ≡ are_same_looks (drop l.i l.a) (drop l.i l.b)
