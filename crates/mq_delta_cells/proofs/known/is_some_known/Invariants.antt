use Rattle.std.proofs.Common.{◌≡◌, drop}
use Rattle.std.specs.List.{list_any}
use Rattle.mq_delta_cells.specs.Walks.{ground_of, is_known_in}
use Rattle.mq_delta_cells.proofs.known.is_some_known.Given as goal

abbrev pub invariant-loop-look : goal.invariant-loop-look
invariant-loop-look l =
    list_any (is_known_in (ground_of l.work) l.changed) (drop l.look-index l.looks) ≡ list_any (is_known_in (ground_of l.work) l.changed) l.looks
