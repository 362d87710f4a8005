use Rattle.std.proofs.Common.{◌≡◌, [], ◌∷◌, ◌++◌, map}
use Rattle.std.specs.List.{flat_map}
use Rattle.mq_unfold.proofs.fronts.with_one.Given as goal

abbrev pub invariant-loop-front : goal.invariant-loop-front
invariant-loop-front l = l.rows ≡ flat_map (λ front. map (λ x. front ++ x ∷ []) (l.place ∷ [])) l.yielded
