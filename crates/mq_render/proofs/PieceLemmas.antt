-- Texts that grow at their end.
use Rattle.std.proofs.Common.{◌≡◌, ℕ, ◌+◌, List, [], ◌++◌, length, take, sym, ap, ◌∙◌, arith, append-nil, length-append}
use Rattle.std.proofs.Math.Seq.{take-append_seam}
use Rattle.std.proofs.lemmas.List.{take-take}
use Rattle.mq_render.specs.Pieces.{BeginsWith}

-- a text begins with what it was made of
pub begins_longer : (all old more : List ℕ) → all ≡ old ++ more → BeginsWith all old
begins_longer all old more p = ap (take (length old)) p ∙ take-append_seam old more

pub begins_same : (all old : List ℕ) → all ≡ old → BeginsWith all old
begins_same all old p = begins_longer all old [] (p ∙ sym (append-nil old))

-- what begins with a longer text begins with its front
pub begins_earlier : (all mid old more : List ℕ) → BeginsWith all mid → mid ≡ old ++ more → BeginsWith all old
begins_earlier all mid old more p q =
    let longer : length mid ≡ length old + length more = ap length q ∙ length-append old more in
    sym (take-take (length old) (length mid) all (omega arith)) ∙ ap (take (length old)) p ∙ begins_longer mid old more q

-- texts begin with what stood there before
pub ruleset fronts = (begins_longer, begins_same, begins_earlier)
