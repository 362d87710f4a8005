-- Items by measure and by place.
use Rattle.std.specs.Prelude.{◌≡◌, ℕ, ◌==◌, ◌&&◌, List, [], Option, None, if◌then◌else◌, slice_index_or}

-- a lane a measure, with what stands at each place; behind the end of a lane nothing stands
abbrev pub Lanes : Type 0 → Type 0
Lanes T = List (List (Option T))

-- what stands at a place of a measure
abbrev pub lane_item : {T : Type 0} → Lanes T → ℕ → ℕ → Option T
lane_item lanes m at = slice_index_or (slice_index_or lanes m []) at None

-- the lane after differs from the one before at this place alone, where this stands now
abbrev pub PlaceDiffers : {T : Type 0} → List (Option T) → List (Option T) → ℕ → Option T → Type 0
PlaceDiffers before after at item = (p : ℕ) → slice_index_or after p None ≡ (if at == p then item else slice_index_or before p None)

-- the lanes after differ from those before at this place of this measure alone, where this stands now
abbrev pub LaneDiffers : {T : Type 0} → Lanes T → Lanes T → ℕ → ℕ → Option T → Type 0
LaneDiffers before after m at item = (j p : ℕ) → lane_item after j p ≡ (if (m == j) && (at == p) then item else lane_item before j p)

-- the same stands at each place
abbrev pub SameItems : {T : Type 0} → Lanes T → Lanes T → Type 0
SameItems before after = (j p : ℕ) → lane_item after j p ≡ lane_item before j p
