use Rattle.std.proofs.Common.{◌≡◌, ◌≤◌, ◌++◌, ℕ, List, drop, length}
use Rattle.mq_ir.specs.BaseRows.{Places}
use Rattle.mq_join.specs.Kept.{PlaceRows}
use Rattle.mq_delta_base.specs.Sets.{union}
use Rattle.mq_delta_base.proofs.unions.union.Given as goal

pub record Joined (a b : PlaceRows) (at other : ℕ) (rows : PlaceRows) : Type 0 where
  pub wide : rows.width ≡ a.width
  pub within : at ≤ length a.rows
  pub same : rows.rows ++ union (drop at a.rows) (drop other b.rows) ≡ union a.rows b.rows

abbrev pub invariant-others : goal.invariant-others
invariant-others l = Joined l.a l.b l.at l.other l.rows
