-- What the versions of a partition tell of its sequential result.
use Rattle.std.specs.Prelude.{◌≡◌, ◌<◌, map, length, None}
use Rattle.std.specs.List.{All}
use Rattle.std.specs.List.Sorted.{IsStrictlySortedBy}
use Rattle.std.specs.Map.{keys_of}
use Rattle.mq_values.specs.Order.{cmp_key}
use Rattle.mq_ir.specs.declared.query.PartInput.{PartInput}
use Rattle.mq_ir.specs.Histories.{history, result_of_versions}
use Rattle.mq_ir.specs.Iteration.{sequential}
use Rattle.mq_ir.specs.Partitions.{Cells}
use Rattle.mq_ir.specs.Unfolding.{Model}
use Rattle.mq_ir.specs.Versions.{versions}

-- what is asked of a model and of the input of a partition
pub record IsPlain (model : Model) (p : PartInput) : Type 0 where
  -- the rules run once
  pub once : model.part.iterate ≡ None
  -- each rule assigns a measure that the model has
  pub bound : All (λ rule. rule.measure < length model.part.measures) model.part.rules
  -- each row of the input has a value for each measure
  pub wide : All (λ row. length row.1 ≡ length model.part.measures) p.cells
  -- its cells ascend, each once, where no tuple stands twice
  pub ascend : p.repeated ≡ None → IsStrictlySortedBy cmp_key (keys_of p.cells)

-- What the rules make of a partition is what its last versions come to, or its first fault.
abbrev pub RunIsVersions : Model → PartInput → Type 0
RunIsVersions model p = IsPlain model p → sequential model p ≡ result_of_versions model p

-- The history of an input has the versions over its keys, whatever its values are.
abbrev pub HistoryHasVersions : Model → Cells → Type 0
HistoryHasVersions model input = map (λ w. w.0) (history model input) ≡ versions model (keys_of input)

-- So inputs with the same keys have the same versions.
abbrev pub VersionsSeeNoValue : Model → Cells → Cells → Type 0
VersionsSeeNoValue model a b = keys_of a ≡ keys_of b → map (λ w. w.0) (history model a) ≡ map (λ w. w.0) (history model b)
