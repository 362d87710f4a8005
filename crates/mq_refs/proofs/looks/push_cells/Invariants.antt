use Rattle.std.proofs.Common.{◌≡◌, ◌++◌, [], drop, map, slice_index_or}
use Rattle.std.specs.List.{filter}
use Rattle.mq_ir.specs.Looks.{looks_at}
use Rattle.mq_ir.specs.Targets.{meets_every}
use Rattle.mq_refs.proofs.looks.push_cells.Given as goal

abbrev pub invariant-loop-place : goal.invariant-loop-place
invariant-loop-place g l =
    l.looks ++ looks_at l.measure (map (λ place. slice_index_or (g.K.CellKeys.set l.keys) place []) (drop l.place-index l.place-items))
    ≡ l.fn.looks ++ looks_at l.measure (filter (meets_every l.tests) (g.K.CellKeys.set l.keys))
