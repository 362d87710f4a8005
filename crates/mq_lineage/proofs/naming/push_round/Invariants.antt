use Rattle.std.proofs.Common.{◌≡◌, ◌++◌, drop}
use Rattle.mq_lineage.specs.Held.{is_held}
use Rattle.mq_lineage.specs.Ordered.{names_at}
use Rattle.mq_lineage.specs.Told.{told_among}
use Rattle.mq_lineage.proofs.naming.push_round.Given as goal

abbrev pub invariant-places : goal.invariant-places
invariant-places l =
    l.told ++ told_among l.s (is_held l.sources) (names_at l.s.assigned (drop l.place-index l.round))
    ≡ l.fn.told ++ told_among l.s (is_held l.sources) (names_at l.s.assigned l.round)
