use Rattle.std.proofs.Common.{◌≡◌, ℕ, ◌<◌, length, slice_index_or}
use Rattle.mq_levels.specs.Places.{IsPlaced}
use Rattle.mq_levels.proofs.rounds.whole_places.Given as goal

abbrev pub invariant-loop-node : goal.invariant-loop-node
invariant-loop-node g l =
    (length l.places.items ≡ l.node) ×
    ((node : ℕ) (other : g.row.R-Place.Denot) → node < l.node →
    IsPlaced (g.R.Reads.reads l.reads) (g.R.Reads.is_place l.reads) (g.R.Reads.left l.reads) l.numbers node (slice_index_or l.places.items node other))
