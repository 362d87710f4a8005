-- The rows that go and come between two lists, step by step.
use Rattle.std.specs.Prelude.{ℕ, ◌∷◌, [], ◌++◌}
use Rattle.mq_ir.specs.Keys.{Tuple}
use Rattle.mq_kept.specs.declared.row_changes.RowChange.{RowChange}
use Rattle.mq_kept.specs.declared.row_changes.Step.{Step}
use Rattle.mq_kept.specs.declared.row_changes.Step.TheVariants as step

-- what went and came, with what a step over a row that was and one that is adds
abbrev pub with_step : Step → Tuple → Tuple → RowChange → RowChange
with_step step.Stays was is change = change
with_step step.Went was is change = record { gone = change.gone ++ was ∷ []; come = change.come }
with_step step.Replaced was is change = record { gone = change.gone ++ was ∷ []; come = change.come ++ is ∷ [] }

-- how many of the rows that are it passes
abbrev pub passed_by : Step → ℕ
passed_by step.Stays = 1
passed_by step.Went = 0
passed_by step.Replaced = 1
