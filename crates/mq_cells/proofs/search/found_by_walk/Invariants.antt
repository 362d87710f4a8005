use Rattle.std.proofs.Common.{◌≡◌, drop}
use Rattle.mq_ir.specs.Partitions.{cell_at}
use Rattle.mq_cells.proofs.search.found_by_walk.Given as goal

abbrev pub invariant-loop-own : goal.invariant-loop-own
invariant-loop-own l = cell_at (drop l.own-index l.cells) l.key ≡ cell_at l.cells l.key
