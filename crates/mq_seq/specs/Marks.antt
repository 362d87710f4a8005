-- Cells, some of which are marked.
use Rattle.std.specs.Prelude.{◌≡◌, ℕ, List, [], ◌∷◌, Bool, IfSome, replicate, if◌then◌else◌}
use Rattle.mq_values.specs.declared.value.Value.TheVariants.{Null}
use Rattle.mq_ir.specs.Keys.{Tuple}
use Rattle.mq_ir.specs.Partitions.{Cells, cell_at, with_cell}

-- the keys whose marks, which stand at the same places, are set
abbrev pub marked_keys : List Tuple → List Bool → List Tuple
marked_keys [] marks = []
marked_keys (key ∷ keys) [] = []
marked_keys (key ∷ keys) (mark ∷ marks) = if mark then key ∷ marked_keys keys marks else marked_keys keys marks

-- the keys of the input, the cells as they stand, those of them that are marked, and how many measures a cell has that is created
pub record Marked : Type 0 where
  pub input : List Tuple
  pub cells : Cells
  pub updated : List Tuple
  pub count : ℕ

-- a cell has null in each of so many measures, where it is there
abbrev pub IsFresh : ℕ → Cells → Tuple → Type 0
IsFresh count cells key = IfSome (cell_at cells key) (λ measures. measures ≡ replicate count Null)

-- the cells with one that has
abbrev pub cell_with : Tuple → Marked → Marked
cell_with key c = record c { cells = with_cell c.cells key (replicate c.count Null) }
