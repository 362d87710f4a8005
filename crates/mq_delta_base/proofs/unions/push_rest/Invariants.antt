use Rattle.std.proofs.Common.{◌≡◌, ◌++◌, ℕ, List, drop}
use Rattle.mq_ir.specs.BaseRows.{Places}
use Rattle.mq_join.specs.Kept.{PlaceRows}
use Rattle.mq_delta_base.proofs.unions.push_rest.Given as goal

pub record Rest (first : PlaceRows) (a : List Places) (at place : ℕ) (rows : PlaceRows) : Type 0 where
  pub wide : rows.width ≡ first.width
  pub same : rows.rows ++ drop place a ≡ first.rows ++ drop at a

abbrev pub invariant-rest : goal.invariant-rest
invariant-rest l = Rest l.fn.rows l.a.rows l.at l.place l.rows
