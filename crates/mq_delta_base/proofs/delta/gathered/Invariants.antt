use Rattle.std.proofs.Common.{◌≡◌, Bool, ℕ, List, Option, length}
use Rattle.mq_ir.specs.declared.query.FromPart.{FromPart}
use Rattle.mq_ir.specs.BaseRows.{Places, items_of}
use Rattle.mq_ir.specs.Keys.{Tuple}
use Rattle.mq_join.specs.Kept.{PlaceRows}
use Rattle.mq_delta_base.specs.Gathered.{Gathered}
use Rattle.mq_delta_base.proofs.delta.gathered.Given as goal

pub record SoFar (from : FromPart) (changed : List Bool) (moved : List (Option ℕ)) (touched : List ℕ) (old : List Places) (news : List (List Tuple)) (n : ℕ) (rows : PlaceRows) : Type 0 where
  pub wide : rows.width ≡ length changed
  pub gathered : Gathered from changed moved touched old news n rows.rows

abbrev pub invariant-items : goal.invariant-items
invariant-items g l = SoFar l.q l.changed l.moves.places l.moves.touched l.old (items_of (g.T.TableSet.tables l.after) l.q) l.item l.rows
