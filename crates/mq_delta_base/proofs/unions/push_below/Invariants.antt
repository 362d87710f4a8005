use Rattle.std.proofs.Common.{◌≡◌, ◌≤◌, ◌∷◌, ◌++◌, ℕ, List, drop, length}
use Rattle.mq_ir.specs.BaseRows.{Places}
use Rattle.mq_join.specs.Kept.{PlaceRows}
use Rattle.mq_delta_base.specs.Sets.{union}
use Rattle.mq_delta_base.proofs.unions.push_below.Given as goal

pub record Pushed (first : PlaceRows) (a : List Places) (at : ℕ) (tuple : Places) (end : ℕ) (rows : PlaceRows) : Type 0 where
  pub wide : rows.width ≡ first.width
  pub within : end ≤ length a
  pub same : (rest : List Places) → rows.rows ++ union (drop end a) (tuple ∷ rest) ≡ first.rows ++ union (drop at a) (tuple ∷ rest)

abbrev pub invariant-below : goal.invariant-below
invariant-below l = Pushed l.fn.rows l.a.rows l.at l.tuple l.place l.rows
