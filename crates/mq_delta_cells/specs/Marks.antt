-- Marks at measures of cells, by the places of the cells among keys, and elsewhere by their names.
use Rattle.std.specs.Prelude.{◌≡◌, ℕ, ◌==◌, Bool, false, ◌&&◌, ◌||◌, List, [], None, is_some, slice_index_or}
use Rattle.std.specs.Option.{option_map_or}
use Rattle.mq_dim_index.specs.Places.{place_of}
use Rattle.mq_ir.specs.declared.query.CellName.{CellName}
use Rattle.mq_ir.specs.Keys.{Tuple}
use Rattle.mq_cells.specs.Stores.{is_named}
use Rattle.mq_delta_cells.specs.Nodes.{Nodes, number_in}

-- the flags of each measure at the places of cells, and the measures of cells that have no place
pub record Marks : Type 0 where
  pub flags : List (List Bool)
  pub elsewhere : Nodes

-- no measure is marked
abbrev pub no_marks : Marks
no_marks = record { flags = []; elsewhere = [] }

-- whether a flag is set; behind the end of a list none is
abbrev pub flag_at : List (List Bool) → ℕ → ℕ → Bool
flag_at flags m at = slice_index_or (slice_index_or flags m []) at false

-- whether a measure is marked
abbrev pub is_marked : List Tuple → Marks → CellName → Bool
is_marked keys marks c = option_map_or (flag_at marks.flags c.measure) (place_of keys c.key) (is_some (number_in marks.elsewhere c))

-- the marks after are those before and this one
abbrev pub MarksBy : List Tuple → Marks → Marks → CellName → Type 0
MarksBy keys before after name = (c : CellName) → is_marked keys after c ≡ (is_named name c || is_marked keys before c)

-- the same flags are set, and the one at this place
abbrev pub SetsFlag : List Bool → List Bool → ℕ → Type 0
SetsFlag before after at = (p : ℕ) → slice_index_or after p false ≡ ((at == p) || slice_index_or before p false)

-- the same flags are set
abbrev pub SameFlags : List Bool → List Bool → Type 0
SameFlags before after = (p : ℕ) → slice_index_or after p false ≡ slice_index_or before p false

-- .. of each measure, and of this one the one at this place
abbrev pub SetsFlagIn : List (List Bool) → List (List Bool) → ℕ → ℕ → Type 0
SetsFlagIn before after m at = (j p : ℕ) → flag_at after j p ≡ (((m == j) && (at == p)) || flag_at before j p)

abbrev pub SameFlagsIn : List (List Bool) → List (List Bool) → Type 0
SameFlagsIn before after = (j p : ℕ) → flag_at after j p ≡ flag_at before j p

-- of a measure that is not told nothing is marked
abbrev pub AreTold : List (List Bool) → Nodes → List Bool → Type 0
AreTold flags elsewhere measures = (c : CellName) → slice_index_or measures c.measure false ≡ false
    → (number_in elsewhere c ≡ None) × ((at : ℕ) → flag_at flags c.measure at ≡ false)
