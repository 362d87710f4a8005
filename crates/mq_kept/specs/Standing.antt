-- What is kept of a view from one statement to the next, while the tables change.
use Rattle.std.specs.Prelude.{◌≡◌, ℕ, true, List}
use Rattle.mq_ir.specs.declared.query.BoundQuery.{BoundQuery}
use Rattle.mq_ir.specs.declared.query.ModelPart.{ModelPart}
use Rattle.mq_ir.specs.Tables.{Tables}
use Rattle.mq_tables.specs.declared.touched.Touched.{Touched}
use Rattle.mq_delta_items.specs.Touching.{TableChanges}
use Rattle.mq_kept.specs.declared.kept_view.KeptView.{KeptView}
use Rattle.mq_kept.specs.declared.standing.StandingView.{StandingView}
use Rattle.mq_kept.specs.Kept.{AllRight, IsKept}

-- what is kept is right, and is what the query reads of these tables where it is fresh
pub record IsStanding (tables : Tables) (q : BoundQuery) (part : ModelPart) (standing : StandingView) : Type 0 where
  pub right : AllRight part standing.view
  pub kept : standing.fresh ≡ true → IsKept tables q part standing.view

-- it stood over the tables before a change of one of them
pub record StoodBefore (touched : Touched) (name : List ℕ) (now : Tables) (q : BoundQuery) (part : ModelPart)
    (standing : StandingView) : Type 0 where
  pub before : Tables
  pub change : TableChanges touched name before now
  pub stood : IsStanding before q part standing

-- a view was kept over the tables before a change of one of them
pub record WasKept (touched : Touched) (name : List ℕ) (now : Tables) (q : BoundQuery) (part : ModelPart) (view : KeptView) : Type 0 where
  pub before : Tables
  pub change : TableChanges touched name before now
  pub kept : IsKept before q part view
