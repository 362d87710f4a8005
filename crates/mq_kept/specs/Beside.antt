-- Tables beside those over which a view is kept.
use Rattle.std.specs.Prelude.{◌≡◌, ℕ, List, Option, Some, map}
use Rattle.std.specs.List.{All}
use Rattle.mq_ir.specs.declared.query.BoundQuery.{BoundQuery}
use Rattle.mq_ir.specs.declared.query.FromPart.{FromPart}
use Rattle.mq_ir.specs.declared.query.ItemPart.{ItemPart}
use Rattle.mq_ir.specs.declared.query.ModelPart.{ModelPart}
use Rattle.mq_ir.specs.declared.query.PlainPart.{PlainPart}
use Rattle.mq_ir.specs.declared.query.RefPart.{RefPart}
use Rattle.mq_ir.specs.Keys.{Tuple}
use Rattle.mq_ir.specs.Tables.{Tables, rows_of}
use Rattle.mq_delta_items.specs.declared.following.ItemChange.{ItemChange}
use Rattle.mq_delta_items.specs.Lines.{items_in, lines_of}
use Rattle.mq_delta_parts.specs.Woven.{IsChangeOf}
use Rattle.mq_kept.specs.declared.row_changes.RowChange.{RowChange}
use Rattle.mq_kept.specs.Kept.{AreLinesOver}

-- these tables have the same rows in both
abbrev pub HaveSameRows : Tables → Tables → List (List ℕ) → Type 0
HaveSameRows before under names = map (rows_of under) names ≡ map (rows_of before) names

-- what the references and the FOR subqueries of a model read has the same rows in both
pub record HasSameSources (before under : Tables) (part : ModelPart) : Type 0 where
  pub refs : All (λ (r : RefPart). HaveSameRows before under r.source.from.tables) part.refs
  pub lists : All (λ (list : PlainPart). HaveSameRows before under list.from.tables) part.lists

-- these are the items of rows that went and of those that came
pub record AreItemsOf (from : FromPart) (part : ItemPart) (rows : RowChange) (change : ItemChange) : Type 0 where
  pub gone : List (Option Tuple)
  pub come : List (Option Tuple)
  pub gone_are : lines_of from part rows.gone ≡ Some gone
  pub come_are : lines_of from part rows.come ≡ Some come
  pub items_gone : change.gone ≡ items_in gone
  pub items_come : change.come ≡ items_in come

-- the other rows have lines, and these item rows went and came between the items of both
pub record IsChangeOfLines (from : FromPart) (part : ItemPart) (rows : List Tuple) (lines : List (Option Tuple)) (change : ItemChange) : Type 0 where
  pub after : List (Option Tuple)
  pub lines_are : lines_of from part rows ≡ Some after
  pub items : IsChangeOf (items_in lines) change.gone change.come (items_in after)

-- a query has lines over the other tables, and these item rows went and came between its items over both
pub record HaveLinesBeside (under : Tables) (q : BoundQuery) (lines : List (Option Tuple)) (change : ItemChange) : Type 0 where
  pub after : List (Option Tuple)
  pub lines_are : AreLinesOver under q after
  pub items : IsChangeOf (items_in lines) change.gone change.come (items_in after)
