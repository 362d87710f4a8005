-- Changes that are made in place, one after another, while what is lent of a view follows them.
use Rattle.std.specs.Prelude.{◌≡◌, ℕ, List, Result, Ok}
use Rattle.std.specs.List.{enumerate_from}
use Rattle.mq_ir.specs.declared.query.BoundQuery.{BoundQuery}
use Rattle.mq_ir.specs.declared.query.ModelPart.{ModelPart}
use Rattle.mq_ir.specs.declared.statement.Change.{Change}
use Rattle.mq_ir.specs.Results.{each_in_turn}
use Rattle.mq_ir.specs.Scenarios.{Stop, numbered_change}
use Rattle.mq_ir.specs.Tables.{Tables}
use Rattle.mq_kept.specs.declared.kept_view.KeptPart.{KeptPart}
use Rattle.mq_kept.specs.declared.kept_view.KeptView.{KeptView}
use Rattle.mq_kept.specs.FollowingLent.{IsLent}

-- none of these changes is refused, whatever number the first has, and these partitions are lent over the tables as they leave them
pub record IsLentUnder (tables : Tables) (changes : List Change) (q : BoundQuery) (part : ModelPart) (view : KeptView) (parts : List KeptPart) : Type 0 where
  pub under : Tables
  pub made : (k : ℕ) → ◌≡◌ {A = Result Tables Stop} (each_in_turn numbered_change (enumerate_from k changes) tables) (Ok under)
  pub lent : IsLent under q part view parts
