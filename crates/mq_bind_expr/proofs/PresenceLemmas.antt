-- PRESENTV and PRESENTNNV with another number of arguments than three.
use Rattle.std.proofs.Common.{◌≡◌, ◌≢◌, List, [], ◌∷◌, length, refl}
use Rattle.mq_bind_scopes.specs.declared.scopes.Found.{Found}
use Rattle.mq_bind_scopes.specs.declared.scopes.Position.{Position}
use Rattle.mq_bind_expr.specs.RuleNodes.{other_presence, presentnnv_node, presentv_node}

pub other_presentv : (at : Position) (found : List Found) → length found ≢ 3 → presentv_node at found ≡ other_presence at
other_presentv at [] h = refl
other_presentv at (c ∷ []) h = refl
other_presentv at (c ∷ a ∷ []) h = refl
other_presentv at (c ∷ a ∷ b ∷ []) h = absurd (h refl)
other_presentv at (c ∷ a ∷ b ∷ d ∷ ds) h = refl

pub other_presentnnv : (at : Position) (found : List Found) → length found ≢ 3 → presentnnv_node at found ≡ other_presence at
other_presentnnv at [] h = refl
other_presentnnv at (c ∷ []) h = refl
other_presentnnv at (c ∷ a ∷ []) h = refl
other_presentnnv at (c ∷ a ∷ b ∷ []) h = absurd (h refl)
other_presentnnv at (c ∷ a ∷ b ∷ d ∷ ds) h = refl
