-- The rows that an UPDATE replaced, and the tables as they were before it.
use Rattle.std.specs.Prelude.{◌≡◌, ℕ, suc, List, [], ◌∷◌, Bool, true, false, map, Some, Ok}
use Rattle.std.specs.Option.{option_map_or}
use Rattle.mq_ir.specs.declared.statement.Change.{Change}
use Rattle.mq_ir.specs.declared.statement.Change.TheVariants.{Insert, Append, Update, Delete}
use Rattle.mq_ir.specs.Changes.{row_key, table_of}
use Rattle.mq_ir.specs.Keys.{Tuple}
use Rattle.mq_ir.specs.Tables.{Table, Tables, is_name, rows_of, table_at}
use Rattle.mq_tables.specs.declared.touched.Touched.TheVariants.{Replaced}
use Rattle.mq_tables.specs.Columns.{spares_key}
use Rattle.mq_tables.specs.InPlace.{applied, put_at}
use Rattle.mq_tables.specs.Touching.{touched_by}

-- an UPDATE of a table that is there, which puts a value into no column of its key
abbrev pub sets_no_key : Tables → Change → Bool
sets_no_key tables (Insert name rows) = false
sets_no_key tables (Append name rows) = false
sets_no_key tables (Update name sets filter) = option_map_or (λ (t : Table). spares_key sets t.schema.key) (table_at tables name) false
sets_no_key tables (Delete name filter) = false

-- Rows as they were and as they are, which are the same but for those that were replaced, each of which is told with its place, as it was.
-- The first row has the place n.
pub data AreReplaced : ℕ → List (ℕ × Tuple) → List Tuple → List Tuple → Type 0 where
  replaced_end : {n : ℕ} → AreReplaced n [] [] []
  replaced_same : {n : ℕ} {were : List (ℕ × Tuple)} {row : Tuple} {before now : List Tuple} → AreReplaced (suc n) were before now
      → AreReplaced n were (row ∷ before) (row ∷ now)
  replaced_put : {n : ℕ} {were : List (ℕ × Tuple)} {was is : Tuple} {before now : List Tuple} → AreReplaced (suc n) were before now
      → AreReplaced n ((n, was) ∷ were) (was ∷ before) (is ∷ now)

-- rows of the table of this name were replaced, and the rows of all others are as they were
pub record ReplacedRows (name : List ℕ) (were : List (ℕ × Tuple)) (before now : Tables) : Type 0 where
  pub rows : AreReplaced 0 were (rows_of before name) (rows_of now name)
  pub others : (other : List ℕ) → is_name name other ≡ false → rows_of now other ≡ rows_of before other

-- an UPDATE that is made replaces the rows that it touches
abbrev pub UpdatesReplace : Type 0
UpdatesReplace =
    (before now : Tables) (c : Change) (count : ℕ) (were : List (ℕ × Tuple))
    → applied before c ≡ Ok (now, count) → touched_by before c ≡ Ok (Replaced were) → ReplacedRows (table_of c) were before now

-- a change that sets no key was made, and these rows were replaced
pub record WasReplaced (c : Change) (were : List (ℕ × Tuple)) (before now : Tables) : Type 0 where
  pub spared : sets_no_key before c ≡ true
  pub count : ℕ
  pub made : applied before c ≡ Ok (now, count)
  pub touched : touched_by before c ≡ Ok (Replaced were)

-- the same of some tables
pub record CanPutBack (c : Change) (were : List (ℕ × Tuple)) (now : Tables) : Type 0 where
  pub before : Tables
  pub replaced : WasReplaced c were before now

-- rows that come to places in the table of this name have the keys of those that stand there
abbrev pub HaveSameKeys : Tables → List ℕ → List (ℕ × Tuple) → Type 0
HaveSameKeys tables name puts =
    (t : Table) → table_at tables name ≡ Some t → map (row_key t.schema) (put_at puts t.rows) ≡ map (row_key t.schema) t.rows
