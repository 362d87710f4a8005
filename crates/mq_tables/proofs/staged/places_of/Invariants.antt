use Rattle.std.proofs.Common.{◌≡◌, Some, map}
use Rattle.std.specs.List.{range_with_len}
use Rattle.mq_tables.proofs.staged.places_of.Given as goal

abbrev pub invariant-rows : goal.invariant-rows
invariant-rows l = l.places.items ≡ map Some (range_with_len 0 l.at)
