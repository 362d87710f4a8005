use Rattle.std.proofs.Common.{◌≡◌, ◌||◌, drop}
use Rattle.mq_ir.specs.Keys.{Tuple, is_among}
use Rattle.mq_delta_cells.specs.Seeds.{is_missing}
use Rattle.mq_delta_cells.proofs.starting.put_missing.Given as goal

abbrev pub invariant-putting : goal.invariant-putting
invariant-putting l =
    (q : Tuple) → (is_among l.odd q || is_missing (drop l.key-index l.keys) l.others q) ≡ (is_among l.fn.odd q || is_missing l.keys l.others q)
