use Rattle.std.proofs.Common.{◌≡◌, List, map, slice_index_or, IfOk, subst}
use Rattle.std.specs.List.{filter}
use Rattle.mq_dim_index.specs.PlaceRuns.{numbers_of}
use Rattle.mq_ir.specs.Keys.{Tuple}
use Rattle.mq_ir.specs.Targets.{meets_every}
use Rattle.mq_refs.proofs.shape_keys.PartShapeCellKeys.runs_meeting.Goals as goal

pub returns-clause-keys : goal.returns-clause-keys
returns-clause-keys c other =
    subst (λ (set : List Tuple). IfOk c.runs_among.result (λ runs. map (λ place. slice_index_or set place other) (numbers_of runs.items) ≡ filter (meets_every c.args.tests.now) set))
    c.as_slice-keys.ensures (c.runs_among.ensures.keys other)
