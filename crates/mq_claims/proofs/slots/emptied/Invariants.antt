use Rattle.std.proofs.Common.{◌≡◌, ℕ, ◌<◌, Some, false, map, take, get_or, vec_len, vec_capacity}
use Rattle.std.specs.Mem.Slots.{slots_items, slots_len, slots_filled}
use Rattle.std.specs.Mem.Slots.Ownership.{Filled}
use Rattle.mq_claims.proofs.slots.emptied.Given as goal

abbrev pub invariant-loop-i : goal.invariant-loop-i
invariant-loop-i g l =
    (slots_items l.closed.slots ≡ slots_items l.fn.closed.slots) × (slots_len l.closed.slots ≡ slots_len l.fn.closed.slots)
    × Filled (slots_filled l.closed.slots) l.i (slots_len l.closed.slots) × ((k : ℕ) → k < l.i
    → get_or (slots_filled l.closed.slots) k false ≡ false)
    × (map Some l.pieces.items ≡ take l.i (slots_items l.closed.slots)) × (vec_len l.pieces ≡ l.i) × (vec_capacity l.pieces ≡ vec_capacity l.fn.pieces)
