use Rattle.std.proofs.Common.{◌≡◌, ◌++◌, [], drop, length, map, slice_index_or}
use Rattle.std.specs.List.{All, filter}
use Rattle.mq_dim_index.specs.PlaceRuns.{numbers_of}
use Rattle.mq_ir.specs.Looks.{looks_at}
use Rattle.mq_ir.specs.Targets.{meets_every}
use Rattle.mq_refs.specs.LookParts.{is_within, looks_in}
use Rattle.mq_refs.proofs.parts.push_runs.Given as goal

abbrev pub invariant-runs : goal.invariant-runs
invariant-runs g l = record {
  looks :
      looks_in (g.K.CellKeys.set l.keys) l.parts
      ++ looks_at l.measure (map (λ place. slice_index_or (g.K.CellKeys.set l.keys) place []) (numbers_of (drop l.run-index l.run-items)))
      ≡ looks_in (g.K.CellKeys.set l.keys) l.fn.parts ++ looks_at l.measure (filter (meets_every l.tests) (g.K.CellKeys.set l.keys));
  within : All (is_within (length (g.K.CellKeys.set l.keys))) l.parts;
}
