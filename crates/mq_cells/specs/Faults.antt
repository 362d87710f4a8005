-- Assignments behind their numbers, and which of them comes first.
use Rattle.std.specs.Prelude.{ℕ, Option, Some, None, if◌then◌else◌}
use Rattle.std.specs.Ordering.{is_gt}
use Rattle.std.specs.Borrow.{Bor}
use Rattle.mq_ir.specs.Shape.{Assignment, cmp_by_rule}
use Rattle.mq_cells.specs.Stores.{Results, is_faulted, name_assigned}

-- an assignment that is lent, behind its number
abbrev pub numbered : ℕ × Bor Assignment → ℕ × Assignment
numbered lent = (lent.0, lent.1.now)

-- the sooner of two by rule, then cell: the first where they are alike or there is no other
abbrev pub sooner_of : ℕ × Assignment → Option (ℕ × Assignment) → ℕ × Assignment
sooner_of one None = one
sooner_of one (Some other) = if is_gt (cmp_by_rule one.1 other.1) then other else one

-- the least once one more is seen, which counts where its result is a fault
abbrev pub least_with : Results → ℕ × Assignment → Option (ℕ × Assignment) → Option (ℕ × Assignment)
least_with results next least = if is_faulted (results (name_assigned next.1)) then Some (sooner_of next least) else least
