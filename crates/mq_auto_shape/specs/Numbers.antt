-- Numbers at measures of cells, by measure and by the place of the cell.
use Rattle.std.specs.Prelude.{◌≡◌, ℕ, ◌==◌, ◌&&◌, List, Option, if◌then◌else◌}
use Rattle.std.specs.Option.{option_and_then}
use Rattle.mq_dim_index.specs.Places.{place_of}
use Rattle.mq_ir.specs.Keys.{Tuple, is_same}
use Rattle.mq_cells.specs.LaneItems.{lane_item}

-- the keys of cells, and for each measure the numbers at their places
pub record Numbered : Type 0 where
  pub keys : List Tuple
  pub lanes : List (List (Option ℕ))

-- the number at a measure of the cell at this tuple
abbrev pub number_at : Numbered → Tuple → ℕ → Option ℕ
number_at numbers key m = option_and_then (lane_item numbers.lanes m) (place_of numbers.keys key)

-- the numbers after differ from those before at this measure of the cell at this tuple alone, where this stands now
abbrev pub NumberDiffers : Numbered → Numbered → Tuple → ℕ → Option ℕ → Type 0
NumberDiffers before after key m number =
    (k : Tuple) (j : ℕ) → number_at after k j ≡ (if is_same key k && (m == j) then number else number_at before k j)
