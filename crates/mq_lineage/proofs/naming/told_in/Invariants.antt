use Rattle.std.proofs.Common.{◌≡◌, ◌++◌, drop, map}
use Rattle.mq_lineage.specs.Held.{is_held}
use Rattle.mq_lineage.specs.Ordered.{names_in}
use Rattle.mq_lineage.specs.Told.{told_among, told_with}
use Rattle.mq_lineage.proofs.naming.told_in.Given as goal

abbrev pub invariant-rounds : goal.invariant-rounds
invariant-rounds l =
    l.told ++ told_among l.s (is_held l.sources) (names_in l.s.assigned (drop l.round-index l.rounds))
    ≡ map (told_with l.s) l.given ++ told_among l.s (is_held l.sources) (names_in l.s.assigned l.rounds)
