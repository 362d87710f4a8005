-- The old places of the rows of a staged change ascend.
use Rattle.std.proofs.Common.{◌≡◌, ℕ, ◌+◌, ◌≤◌, List, [], ◌∷◌, ◌++◌, Bool, true, false, not, Option, Some, None, length, map, Result, Ok, Err, IfOk, refl, subst, arith}
use Rattle.std.specs.Prelude.{if◌then◌else◌}
use Rattle.std.specs.List.{enumerate_from, filter, range_with_len}
use Rattle.std.specs.Option.{ok_or}
use Rattle.mq_values.specs.declared.faults.Refused.{Refused}
use Rattle.mq_values.specs.declared.faults.Refused.TheVariants as refused
use Rattle.mq_ir.specs.declared.statement.Change.{Change}
use Rattle.mq_ir.specs.declared.statement.Change.TheVariants.{Insert, Append, Update, Delete}
use Rattle.mq_ir.specs.Changes.{Visited, Changed, deleted_row, table_of, updated_row}
use Rattle.mq_ir.specs.Keys.{Tuple}
use Rattle.mq_ir.specs.Results.{◌>>=◌, each}
use Rattle.mq_ir.specs.Statement.{staged}
use Rattle.mq_ir.specs.Tables.{Table, Tables, table_at}
use Rattle.mq_tables.specs.OldPlaces.{AscendFrom, KeepsOrder}
use Rattle.mq_tables.specs.Staging.{Staged, new_places, origins_of, place_unless_true, places_left, stays}
use Rattle.mq_tables.proofs.StandLemmas.{ok_is, then_is}

later : (n m : ℕ) (places : List (Option ℕ)) → n ≤ m → AscendFrom m places → AscendFrom n places
later n m [] l h = tt
later n m (None ∷ places) l h = later n m places l h
later n m (Some place ∷ places) l h = (let k = h.0 in omega (arith, l, k), h.1)

new_ascend : {A : Type 0} (n : ℕ) (rows : List A) → AscendFrom n (new_places rows)
new_ascend n [] = tt
new_ascend n (row ∷ rows) = new_ascend n rows

stay_ascend : {A : Type 0} (n : ℕ) (rows : List Tuple) (new : List A) → AscendFrom n (map Some (range_with_len n (length rows)) ++ new_places new)
stay_ascend n [] new = new_ascend n new
stay_ascend n (row ∷ rows) new = (omega arith, stay_ascend (n + 1) rows new)

updated_ascend : (n : ℕ) (rows : List Visited) → AscendFrom n (map place_unless_true (enumerate_from n rows))
updated_ascend n [] = tt
updated_ascend n (row ∷ rows) = by row.1 (updated_ascend (n + 1) rows)
  where
    by : (b : Bool) → AscendFrom (n + 1) (map place_unless_true (enumerate_from (n + 1) rows)) → AscendFrom n ((if b then None else Some n) ∷ map place_unless_true (enumerate_from (n + 1) rows))
    by true h = later n (n + 1) (map place_unless_true (enumerate_from (n + 1) rows)) (omega arith) h
    by false h = (omega arith, h)

deleted_ascend : (n : ℕ) (rows : List Visited) → AscendFrom n (map (λ (row : ℕ × Visited). Some row.0) (filter (λ (row : ℕ × Visited). not row.1.1) (enumerate_from n rows)))
deleted_ascend n [] = tt
deleted_ascend n (row ∷ rows) = by row.1 (deleted_ascend (n + 1) rows)
  where
    rest : List (ℕ × Visited)
    rest = filter (λ (row : ℕ × Visited). not row.1.1) (enumerate_from (n + 1) rows)

    by : (b : Bool) → AscendFrom (n + 1) (map (λ (row : ℕ × Visited). Some row.0) rest) → AscendFrom n (map (λ (row : ℕ × Visited). Some row.0) (if not b then (n, row) ∷ rest else rest))
    by true h = later n (n + 1) (map (λ (row : ℕ × Visited). Some row.0) rest) (omega arith) h
    by false h = (omega arith, h)

origins_ascend : (t : Table) (change : Change) (places : List (Option ℕ)) → origins_of t change ≡ Ok places → AscendFrom 0 places
origins_ascend t (Insert name rows) places h = subst (AscendFrom 0) (ok_is (stays t.rows ++ new_places rows) places h) (stay_ascend 0 t.rows rows)
origins_ascend t (Append name rows) places h = subst (AscendFrom 0) (ok_is (stays t.rows ++ new_places rows) places h) (stay_ascend 0 t.rows rows)
origins_ascend t (Update name sets filter) places h =
    then_is (each (updated_row t.schema sets filter) (enumerate_from 1 t.rows)) (λ rows. Ok (map place_unless_true (enumerate_from 0 rows))) places (AscendFrom 0 places) h (λ rows e g.
    subst (AscendFrom 0) (ok_is (map place_unless_true (enumerate_from 0 rows)) places g) (updated_ascend 0 rows))
origins_ascend t (Delete name filter) places h =
    then_is (each (deleted_row filter) (enumerate_from 1 t.rows)) (λ rows. Ok (places_left rows)) places (AscendFrom 0 places) h (λ rows e g.
    subst (AscendFrom 0) (ok_is (places_left rows) places g) (deleted_ascend 0 rows))

pub keeps_order : (tables : Tables) (change : Change) → KeepsOrder tables change
keeps_order tables change = of (ok_or (table_at tables (table_of change)) (refused.UnknownName (table_of change)))
  where
    of_origins : (t : Table) (changed : Changed) (r : Result (List (Option ℕ)) Refused) → origins_of t change ≡ r
        → IfOk (r >>= (λ origins. Ok (record { table = t.name; had = length t.rows; rows = changed.0; counted = changed.1; origins = origins }))) (λ (s : Staged). AscendFrom 0 s.origins)
    of_origins t changed (Ok places) e = origins_ascend t change places e
    of_origins t changed (Err d) e = tt

    of_rows : (t : Table) (r : Result Changed Refused)
        → IfOk (r >>= (λ changed. origins_of t change >>= (λ origins. Ok (record { table = t.name; had = length t.rows; rows = changed.0; counted = changed.1; origins = origins })))) (λ (s : Staged). AscendFrom 0 s.origins)
    of_rows t (Ok changed) = of_origins t changed (origins_of t change) refl
    of_rows t (Err d) = tt

    of : (r : Result Table Refused)
        → IfOk (r >>= (λ t. staged tables t change >>= (λ changed. origins_of t change >>= (λ origins. Ok (record { table = t.name; had = length t.rows; rows = changed.0; counted = changed.1; origins = origins })))))
        (λ (s : Staged). AscendFrom 0 s.origins)
    of (Ok t) = of_rows t (staged tables t change)
    of (Err d) = tt
