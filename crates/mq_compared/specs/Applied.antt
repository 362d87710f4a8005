-- A change where it is applied is the change of the tables.
use Rattle.std.proofs.Common.{◌≡◌, ℕ, List, ◌++◌, true, false, map, Option, Some, None, Result, Ok, Err, length, refl}
use Rattle.std.specs.List.{enumerate_from}
use Rattle.std.specs.Option.{ok_or}
use Rattle.mq_values.specs.declared.faults.Refused.{Refused}
use Rattle.mq_values.specs.declared.faults.Refused.TheVariants as refused
use Rattle.mq_ir.specs.declared.statement.Change.{Change}
use Rattle.mq_ir.specs.declared.statement.Change.TheVariants.{Insert, Append, Update, Delete}
use Rattle.mq_ir.specs.Changes.{Changed, Visited, deleted_row, key_fault, rows_added, rows_changed, size_fault, table_of, updated_row, visited_as}
use Rattle.mq_ir.specs.Results.{◌>>=◌, each}
use Rattle.mq_ir.specs.Statement.{change_of_tables, staged, unless_refused, with_rows}
use Rattle.mq_ir.specs.Tables.{Table, Tables, table_at}
use Rattle.mq_tables.specs.InPlace.{applied}
use Rattle.mq_tables.specs.Staging.{Staged, new_places, origins_of, place_unless_true, places_left, stays}

-- ---- where the rows can be made, their old places are known
abbrev Is : {A : Type 0} → Result A Refused → Type 0
Is {A} r = (x : A) × (r ≡ Ok x)

both_are : {X A B : Type 0} (r : Result X Refused) (f : X → A) (g : X → B) (a : A) → (r >>= (λ x. Ok (f x))) ≡ Ok a → Is (r >>= (λ x. Ok (g x)))
both_are (Ok x) f g a h = (g x, refl)
both_are (Err e) f g a h = absurd (cc)

origins_are : (table : Table) (change : Change) (changed : Changed) → rows_changed table change ≡ Ok changed → Is (origins_of table change)
origins_are table (Insert name rows) changed h = (stays table.rows ++ new_places rows, refl)
origins_are table (Append name rows) changed h = (stays table.rows ++ new_places rows, refl)
origins_are table (Update name sets filter) changed h =
    both_are (each (updated_row table.schema sets filter) (enumerate_from 1 table.rows)) (λ (rows : List Visited). (map (λ (row : Visited). row.0) rows, length (visited_as true rows)))
    (λ (rows : List Visited). map place_unless_true (enumerate_from 0 rows)) changed h
origins_are table (Delete name filter) changed h =
    both_are (each (deleted_row filter) (enumerate_from 1 table.rows)) (λ (rows : List Visited). (visited_as false rows, length (visited_as true rows))) places_left changed h

rows_are : (o : Option Refused) (r : Result Changed Refused) (keys : Changed → Option Refused) (changed : Changed) → unless_refused o (r >>= (λ c. unless_refused (keys c) (Ok c))) ≡ Ok changed → Is r
rows_are None (Ok c) keys changed h = (c, refl)
rows_are None (Err e) keys changed h = absurd (cc)
rows_are (Some e) r keys changed h = absurd (cc)

module _ (tables : Tables) (change : Change) where
  staged_are : (table : Table) (changed : Changed) → staged tables table change ≡ Ok changed → Is (origins_of table change)
  staged_are table changed h =
      let rows = rows_are (size_fault tables table (rows_added change)) (rows_changed table change) (λ c. key_fault table.schema c.0) changed h in
      origins_are table change rows.0 rows.1

  -- ---- what is staged and then committed is the change
  abbrev noted : Table → Changed → List (Option ℕ) → Staged
  noted table changed origins = record { table = table.name; had = length table.rows; rows = changed.0; counted = changed.1; origins = origins }

  abbrev put : Staged → Tables × ℕ
  put s = (with_rows tables s.table s.rows, s.counted)

  abbrev done : Table → Changed → Tables × ℕ
  done table changed = (with_rows tables table.name changed.0, changed.1)

  abbrev stage_of : Table → Result Changed Refused → Result (List (Option ℕ)) Refused → Result Staged Refused
  stage_of table rows origins = rows >>= (λ changed. origins >>= (λ o. Ok (noted table changed o)))

  abbrev change_of : Table → Result Changed Refused → Result (Tables × ℕ) Refused
  change_of table rows = rows >>= (λ changed. Ok (done table changed))

  rows_same : (table : Table) (rows : Result Changed Refused) (origins : Result (List (Option ℕ)) Refused) → ((changed : Changed) → rows ≡ Ok changed → Is origins)
      → (stage_of table rows origins >>= (λ s. Ok (put s))) ≡ change_of table rows
  rows_same table (Ok changed) (Ok o) k = refl
  rows_same table (Ok changed) (Err f) k = absurd (let w : Err f ≡ Ok (k changed refl).0 = (k changed refl).1 in cc)
  rows_same table (Err f) origins k = refl

  abbrev unknown : Refused
  unknown = refused.UnknownName (table_of change)

  table_same : (o : Option Table)
      → ((ok_or o unknown >>= (λ table. stage_of table (staged tables table change) (origins_of table change))) >>= (λ s. Ok (put s)))
      ≡ (ok_or o unknown >>= (λ table. change_of table (staged tables table change)))
  table_same None = refl
  table_same (Some table) = rows_same table (staged tables table change) (origins_of table change) (staged_are table)

  pub applied_is : applied tables change ≡ change_of_tables tables change
  applied_is = table_same (table_at tables (table_of change))
