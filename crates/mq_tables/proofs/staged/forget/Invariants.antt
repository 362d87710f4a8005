use Rattle.std.proofs.Common.{◌≡◌, take}
use Rattle.mq_tables.specs.Touching.{forgotten}
use Rattle.mq_tables.proofs.staged.forget.Given as goal

abbrev pub invariant-rows : goal.invariant-rows
invariant-rows l = l.places.items ≡ forgotten (take l.row-index l.rows) l.fn.places.items
