use Rattle.std.proofs.Common.{◌≡◌, [], ◌∷◌, ◌++◌, map, take}
use Rattle.mq_unfold.proofs.fronts.push_each.Given as goal

abbrev pub invariant-loop-place : goal.invariant-loop-place
invariant-loop-place l = l.rows ≡ l.initial.rows ++ map (λ x. l.front ++ x ∷ []) (take l.place-index l.places)
