-- Partitions of a view that are lent, while rows of the tables are replaced.
use Rattle.std.specs.Prelude.{◌≡◌, ℕ, List, [], map, Option, slice_index_or}
use Rattle.mq_ir.specs.declared.query.BoundQuery.{BoundQuery}
use Rattle.mq_ir.specs.declared.query.ModelPart.{ModelPart}
use Rattle.mq_ir.specs.Keys.{Tuple}
use Rattle.mq_ir.specs.Tables.{Tables}
use Rattle.mq_kept.specs.declared.kept_view.KeptPart.{KeptPart}
use Rattle.mq_kept.specs.declared.kept_view.KeptView.{KeptView}
use Rattle.mq_kept.specs.declared.row_changes.RowChange.{RowChange}
use Rattle.mq_kept.specs.Kept.{AreLinesOver, IsKept}
use Rattle.mq_kept.specs.Lent.{with_parts}
use Rattle.mq_tables.specs.PuttingBack.{ReplacedRows}

-- with the lists and the arrays that are kept these partitions are what the query reads of these tables; and it has lines over them
pub record IsLent (tables : Tables) (q : BoundQuery) (part : ModelPart) (view : KeptView) (parts : List KeptPart) : Type 0 where
  pub kept : IsKept tables q part (with_parts view parts)
  pub lines : List (Option Tuple)
  pub lines_are : AreLinesOver tables q lines

-- they were so over the tables before these rows of one of them were replaced
pub record WasLent (name : List ℕ) (were : List (ℕ × Tuple)) (now : Tables) (q : BoundQuery) (part : ModelPart) (view : KeptView)
    (parts : List KeptPart) : Type 0 where
  pub before : Tables
  pub replaced : ReplacedRows name were before now
  pub lent : IsLent before q part view parts

-- these rows went, and those came that stand at their places
pub record AreExchanged (were : List (ℕ × Tuple)) (rows : List Tuple) (change : RowChange) : Type 0 where
  pub gone : change.gone ≡ map (λ was. was.1) were
  pub come : change.come ≡ map (λ was. slice_index_or rows was.0 []) were
