use Rattle.std.proofs.Common.{◌≡◌, ◌-◌, drop, take}
use Rattle.std.specs.List.{list_any}
use Rattle.mq_ir.specs.Looks.{looks_at}
use Rattle.mq_delta_cells.specs.Walks.{ground_of, is_known_in}
use Rattle.mq_delta_cells.proofs.parts.is_run_known.Given as goal

-- the rest decides
abbrev pub invariant-places : goal.invariant-places
invariant-places l =
    list_any (is_known_in (ground_of l.work) l.changed) (looks_at l.m (take (l.past - l.place) (drop l.place l.work.course.now.cells)))
    ≡ list_any (is_known_in (ground_of l.work) l.changed) (looks_at l.m (take (l.past - l.first) (drop l.first l.work.course.now.cells)))
