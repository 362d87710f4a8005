use Rattle.std.proofs.Common.{◌≡◌, ℕ, map, take}
use Rattle.mq_ir.specs.Changes.{row_key}
use Rattle.mq_ir.specs.Keys.{Tuple}
use Rattle.mq_tables.proofs.keyed_rows.keys_that_were.Given as goal

abbrev pub invariant-were : goal.invariant-were
invariant-were l = l.keys ≡ map (λ (put : ℕ × Tuple). row_key l.schema put.1) (take l.row-index l.were)
