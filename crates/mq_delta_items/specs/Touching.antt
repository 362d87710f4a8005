-- How the rows of a table stand to those before a change, by what the change touched.
use Rattle.std.specs.Prelude.{◌≡◌, ℕ, Bool, true, false, List, [], ◌∷◌, length, map, take, Ok}
use Rattle.std.specs.List.{enumerate_from, filter}
use Rattle.mq_ir.specs.declared.statement.Change.{Change}
use Rattle.mq_ir.specs.Changes.{table_of}
use Rattle.mq_ir.specs.Keys.{Tuple}
use Rattle.mq_ir.specs.Tables.{Tables, is_name, rows_of}
use Rattle.mq_tables.specs.declared.touched.Touched.{Touched}
use Rattle.mq_tables.specs.declared.touched.Touched.TheVariants.{Added, Replaced, Gone}
use Rattle.mq_tables.specs.InPlace.{applied, items_left}
use Rattle.mq_tables.specs.Touching.{touched_by}

-- the places that are marked
abbrev pub places_marked : List Bool → List ℕ
places_marked marks = map (λ mark. mark.0) (filter (λ mark. mark.1) (enumerate_from 0 marks))

-- rows as they were and as they are, which are the same where nothing is marked
pub data SameUnmarked : List Bool → List Tuple → List Tuple → Type 0 where
  same_end : SameUnmarked [] [] []
  same_marked : {marks : List Bool} {was is : Tuple} {before now : List Tuple} → SameUnmarked marks before now
      → SameUnmarked (true ∷ marks) (was ∷ before) (is ∷ now)
  same_unmarked : {marks : List Bool} {row : Tuple} {before now : List Tuple} → SameUnmarked marks before now
      → SameUnmarked (false ∷ marks) (row ∷ before) (row ∷ now)

-- rows were replaced at these places
pub record IsReplaced (places : List ℕ) (before now : List Tuple) : Type 0 where
  pub marks : List Bool
  pub places_are : places ≡ places_marked marks
  pub same : SameUnmarked marks before now

-- the rows now, by those before and by what was touched
abbrev pub IsTouchedBy : Touched → List Tuple → List Tuple → Type 0
IsTouchedBy (Added first count) before now = (first ≡ length before) × (take first now ≡ before)
IsTouchedBy (Replaced rows) before now = IsReplaced (map (λ row. row.0) rows) before now
IsTouchedBy (Gone flags rows) before now = (length flags ≡ length before) × (now ≡ items_left before flags)

-- the rows of the changed table follow those before it, and those of the others are as they were
pub record TableChanges (touched : Touched) (name : List ℕ) (before now : Tables) : Type 0 where
  pub rows : IsTouchedBy touched (rows_of before name) (rows_of now name)
  pub others : (other : List ℕ) → is_name name other ≡ false → rows_of now other ≡ rows_of before other

-- what a change touches tells how the tables stand to those before it
abbrev pub ChangesTouch : Type 0
ChangesTouch =
    (before now : Tables) (c : Change) (count : ℕ) (touched : Touched)
    → applied before c ≡ Ok (now, count) → touched_by before c ≡ Ok touched → TableChanges touched (table_of c) before now
