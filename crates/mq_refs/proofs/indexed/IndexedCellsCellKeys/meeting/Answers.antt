use Rattle.std.proofs.Common.{◌≡◌, List, map, slice_index_or, IfOk, subst}
use Rattle.std.specs.List.{filter}
use Rattle.mq_ir.specs.Keys.{Tuple}
use Rattle.mq_ir.specs.Targets.{meets_every}
use Rattle.mq_refs.proofs.indexed.IndexedCellsCellKeys.meeting.Goals as goal

pub returns-clause-keys : goal.returns-clause-keys
returns-clause-keys c other =
    subst (λ (set : List Tuple). IfOk c.in_range.result (λ places. map (λ place. slice_index_or set place other) places.items ≡ filter (meets_every c.args.tests.now) set))
    c.index.ensures.keys (c.in_range.ensures.keys other)
