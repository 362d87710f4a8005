use Rattle.std.proofs.Common.{◌≡◌, ℕ, ◌==◌, drop}
use Rattle.std.specs.List.{find, zip}
use Rattle.mq_ir.specs.declared.query.SinglePlace.{SinglePlace}
use Rattle.mq_unfold.proofs.left_sides.named_at.Given as goal

abbrev pub invariant-loop-i : goal.invariant-loop-i
invariant-loop-i l = find (λ (named : ℕ × SinglePlace). named.0 == l.dim) (drop l.i (zip l.dims l.row)) ≡ find (λ (named : ℕ × SinglePlace). named.0 == l.dim) (zip l.dims l.row)
