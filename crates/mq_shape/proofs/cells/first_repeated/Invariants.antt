use Rattle.std.proofs.Common.{◌≡◌, ◌-◌, drop, map}
use Rattle.mq_ir.specs.Keys.{Tuple}
use Rattle.mq_shape.specs.Repeats.{first_twice}
use Rattle.mq_shape.proofs.cells.first_repeated.Given as goal

-- no tuple so far is that of the next cell
abbrev pub invariant-loop-at : goal.invariant-loop-at
invariant-loop-at l = first_twice (map (λ (cell : Tuple × Tuple). cell.0) (drop (l.at - 1) l.cells)) ≡ first_twice (map (λ (cell : Tuple × Tuple). cell.0) l.cells)
