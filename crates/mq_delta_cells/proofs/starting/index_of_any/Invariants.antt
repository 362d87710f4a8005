use Rattle.std.proofs.Common.{◌≡◌, ◌||◌, drop}
use Rattle.mq_ir.specs.Keys.{Tuple, is_among}
use Rattle.mq_delta_cells.proofs.starting.index_of_any.Given as goal

abbrev pub invariant-inserting : goal.invariant-inserting
invariant-inserting l = (q : Tuple) → (is_among l.index q || is_among (drop l.key-index l.keys) q) ≡ is_among l.keys q
