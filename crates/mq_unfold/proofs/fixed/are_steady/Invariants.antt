use Rattle.std.proofs.Common.{drop}
use Rattle.std.specs.List.{All}
use Rattle.mq_unfold.specs.FixedLefts.{IsSteady}
use Rattle.mq_unfold.proofs.fixed.are_steady.Given as goal

abbrev pub invariant-items : goal.invariant-items
invariant-items l = All IsSteady (drop l.item-index l.items) → All IsSteady l.items
