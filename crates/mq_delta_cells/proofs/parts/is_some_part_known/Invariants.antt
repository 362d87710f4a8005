use Rattle.std.proofs.Common.{◌≡◌, drop}
use Rattle.std.specs.List.{list_any}
use Rattle.mq_refs.specs.LookParts.{looks_in}
use Rattle.mq_delta_cells.specs.Walks.{ground_of, is_known_in}
use Rattle.mq_delta_cells.proofs.parts.is_some_part_known.Given as goal

-- the rest decides
abbrev pub invariant-parts : goal.invariant-parts
invariant-parts l =
    list_any (is_known_in (ground_of l.work) l.changed) (looks_in l.work.course.now.cells (drop l.part-index l.parts))
    ≡ list_any (is_known_in (ground_of l.work) l.changed) (looks_in l.work.course.now.cells l.parts)
