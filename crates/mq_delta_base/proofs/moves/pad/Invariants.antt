use Rattle.std.proofs.Common.{◌≡◌, ◌-◌, ◌≤◌, ℕ, List, Option, None, length}
use Rattle.std.specs.Prelude.{slice_index_or}
use Rattle.mq_delta_base.proofs.moves.pad.Given as goal

pub record Padded (old new : List (Option ℕ)) (count : ℕ) : Type 0 where
  pub within : length old ≤ count → length new ≤ count
  pub same : (o : ℕ) → slice_index_or new o None ≡ slice_index_or old o None

abbrev pub invariant-places : goal.invariant-places
invariant-places l = Padded l.fn.places l.places l.count

abbrev pub decreases-places : goal.decreases-places
decreases-places l = l.count - length l.places
