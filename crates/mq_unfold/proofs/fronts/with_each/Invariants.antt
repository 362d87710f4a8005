use Rattle.std.proofs.Common.{◌≡◌, [], ◌∷◌, ◌++◌, map, take}
use Rattle.std.specs.List.{flat_map}
use Rattle.mq_unfold.proofs.fronts.with_each.Given as goal

abbrev pub invariant-loop-front : goal.invariant-loop-front
invariant-loop-front l = l.rows ≡ flat_map (λ front. map (λ x. front ++ x ∷ []) l.places) (take l.front-index l.fronts)
