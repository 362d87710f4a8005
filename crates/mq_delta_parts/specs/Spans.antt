-- Where the cell at a tuple stands among cells that ascend, and what an edit puts.
use Rattle.std.specs.Prelude.{◌≡◌, ℕ, nat_lt, List, ◌++◌, take, drop, Option, Some, None}
use Rattle.mq_ir.specs.Partitions.{Cells}
use Rattle.mq_ir.specs.Keys.{Tuple}
use Rattle.mq_delta_parts.specs.Edits.{Edit, above, below, front_of, has_cell}

-- so many cells stand below a tuple, and so many are not above it
pub record IsSpan (cells : Cells) (tuple : Tuple) (start end : ℕ) : Type 0 where
  pub front : take start cells ≡ below tuple cells
  pub rest : drop end cells ≡ above tuple cells
  pub there : nat_lt start end ≡ has_cell cells tuple

-- an edit puts cells behind those `before`: all of these cells up to its own, of which there are so many; or none, where its tuple
-- would stand twice
abbrev pub Puts : Cells → Edit → List Edit → Cells → Option ℕ → Cells → Type 0
Puts cells edit next before None after = front_of cells edit next ≡ None
Puts cells edit next before (Some end) after =
    (front : Cells) × (front_of cells edit next ≡ Some front) × (after ≡ before ++ front) × (drop end cells ≡ above edit.0 cells)
