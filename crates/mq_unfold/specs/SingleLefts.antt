-- The single left sides of a rule by its number.
use Rattle.std.specs.Prelude.{ℕ, List, [], Result}
use Rattle.mq_ir.specs.declared.query.Rule.{Rule}
use Rattle.mq_ir.specs.declared.query.SingleLeft.{SingleLeft}
use Rattle.mq_ir.specs.Placed.{Placed, placed_fault}
use Rattle.mq_ir.specs.Results.{marked}
use Rattle.mq_ir.specs.Unfolding.{Model, unfold_rule}

-- the single left sides of a rule in a turn, or the fault of unfolding it, at the empty cell
abbrev pub lefts_of : Model → ℕ → ℕ → Rule → Result (List SingleLeft) Placed
lefts_of model turn number rule = marked (placed_fault number []) (unfold_rule model rule turn)
