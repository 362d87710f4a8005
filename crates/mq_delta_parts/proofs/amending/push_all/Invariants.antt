use Rattle.std.proofs.Common.{◌≡◌, ◌++◌, take}
use Rattle.mq_delta_parts.proofs.amending.push_all.Given as goal

abbrev pub invariant-cells : goal.invariant-cells
invariant-cells l = l.kept ≡ l.fn.kept ++ take l.cell-index l.cells
