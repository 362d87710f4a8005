-- Holding a change comes to what the change makes of the tables.
use Rattle.std.proofs.Common.{◌≡◌, ℕ, List, ◌++◌, true, false, Option, Some, None, Result, Ok, Err, length, map, refl, sym, ap, ◌∙◌, subst}
use Rattle.std.specs.List.{enumerate_from}
use Rattle.std.specs.Option.{ok_or}
use Rattle.mq_values.specs.Answers.{Gives, result_map}
use Rattle.mq_values.specs.declared.faults.Refused.{Refused}
use Rattle.mq_values.specs.declared.faults.Refused.TheVariants as refused
use Rattle.mq_values.specs.declared.memory.Fail.{Fail}
use Rattle.mq_values.specs.declared.memory.Fail.TheVariants as fail
use Rattle.mq_ir.specs.declared.statement.Change.{Change}
use Rattle.mq_ir.specs.declared.statement.Change.TheVariants.{Insert, Append, Update, Delete}
use Rattle.mq_ir.specs.Changes.{Changed, Visited, deleted_row, key_fault, rows_added, rows_changed, size_fault, table_of, updated_row, visited_as}
use Rattle.mq_ir.specs.Results.{◌>>=◌, each, marked}
use Rattle.mq_ir.specs.Scenarios.{Stop, numbered_change}
use Rattle.mq_ir.specs.Statement.{change_of_tables, staged, unless_refused, with_rows}
use Rattle.mq_ir.specs.Tables.{Table, Tables, table_at}
use Rattle.mq_tables.specs.Pending.{held, holding, with_pending}
use Rattle.mq_tables.specs.Staging.{Staged, new_places, origins_of, place_unless_true, places_left, stays}
use Rattle.mq_overlay.specs.Numbers.{numbered}
use Rattle.mq_overlay.proofs.HeldLemmas.{found_name, step_held}

-- ---- where the rows can be made, their old places are known
abbrev Is : {A : Type 0} → Result A Refused → Type 0
Is {A} r = (x : A) × (r ≡ Ok x)

both_are : {X A B : Type 0} (r : Result X Refused) (f : X → A) (g : X → B) (a : A) → (r >>= (λ x. Ok (f x))) ≡ Ok a → Is (r >>= (λ x. Ok (g x)))
both_are (Ok x) f g a h = (g x, refl)
both_are (Err e) f g a h = absurd (cc)

origins_are : (table : Table) (change : Change) (changed : Changed) → rows_changed table change ≡ Ok changed → Is (origins_of table change)
origins_are table (Insert name rows) changed h = (stays table.rows ++ new_places rows, refl)
origins_are table (Append name rows) changed h = (stays table.rows ++ new_places rows, refl)
origins_are table (Update name sets filter) changed h =
    both_are (each (updated_row table.schema sets filter) (enumerate_from 1 table.rows)) (λ (rows : List Visited). (map (λ (row : Visited). row.0) rows, length (visited_as true rows)))
    (λ (rows : List Visited). map place_unless_true (enumerate_from 0 rows)) changed h
origins_are table (Delete name filter) changed h =
    both_are (each (deleted_row filter) (enumerate_from 1 table.rows)) (λ (rows : List Visited). (visited_as false rows, length (visited_as true rows))) places_left changed h

rows_are : (o : Option Refused) (r : Result Changed Refused) (keys : Changed → Option Refused) (changed : Changed) → unless_refused o (r >>= (λ c. unless_refused (keys c) (Ok c))) ≡ Ok changed → Is r
rows_are None (Ok c) keys changed h = (c, refl)
rows_are None (Err e) keys changed h = absurd (cc)
rows_are (Some e) r keys changed h = absurd (cc)

module _ (tables : Tables) (pending : List Staged) (change : Change) where
  abbrev shown : Tables
  shown = with_pending tables pending

  staged_are : (table : Table) (changed : Changed) → staged shown table change ≡ Ok changed → Is (origins_of table change)
  staged_are table changed h =
      let rows = rows_are (size_fault shown table (rows_added change)) (rows_changed table change) (λ c. key_fault table.schema c.0) changed h in
      origins_are table change rows.0 rows.1

  abbrev noted : Table → Changed → List (Option ℕ) → Staged
  noted table changed origins = record { table = table.name; had = length table.rows; rows = changed.0; counted = changed.1; origins = origins }

  abbrev kept : Staged → Result (List Staged × ℕ) Refused
  kept step = Ok (held (table_of change) pending step, step.counted)

  abbrev told : List Staged × ℕ → Tables × ℕ
  told after = (with_pending tables after.0, after.1)

  abbrev step_of : Table → Result Changed Refused → Result (List (Option ℕ)) Refused → Result Staged Refused
  step_of table rows origins = rows >>= (λ changed. origins >>= (λ o. Ok (noted table changed o)))

  abbrev change_of : Table → Result Changed Refused → Result (Tables × ℕ) Refused
  change_of table rows = rows >>= (λ changed. Ok (with_rows shown table.name changed.0, changed.1))

  rows_same : (table : Table) → table_of change ≡ table.name → (rows : Result Changed Refused) (origins : Result (List (Option ℕ)) Refused) → ((changed : Changed) → rows ≡ Ok changed → Is origins)
      → result_map told (step_of table rows origins >>= kept) ≡ change_of table rows
  rows_same table n (Ok changed) (Ok o) k =
      ap (λ (ts : Tables). Ok (ts, changed.1))
      (sym (step_held (table_of change) (noted table changed o) (sym n) tables pending) ∙ ap (λ w. with_rows shown w changed.0) n)
  rows_same table n (Ok changed) (Err f) k = absurd (let w : Err f ≡ Ok (k changed refl).0 = (k changed refl).1 in cc)
  rows_same table n (Err f) origins k = refl

  abbrev unknown : Refused
  unknown = refused.UnknownName (table_of change)

  table_same : (o : Option Table) → ((table : Table) → o ≡ Some table → table_of change ≡ table.name)
      → result_map told ((ok_or o unknown >>= (λ table. step_of table (staged shown table change) (origins_of table change))) >>= kept)
      ≡ (ok_or o unknown >>= (λ table. change_of table (staged shown table change)))
  table_same None n = refl
  table_same (Some table) n = rows_same table (n table refl) (staged shown table change) (origins_of table change) (staged_are table)

  holding_is : result_map told (holding tables pending change) ≡ change_of_tables shown change
  holding_is = table_same (table_at shown (table_of change)) (found_name shown (table_of change))

  -- ---- and with the number of the change
  abbrev with_number : ℕ → Result (Tables × ℕ) Refused → Result Tables Stop
  with_number k r = marked (λ refusal. (k, refusal)) r >>= (λ changed. Ok changed.0)

  pub step_gives : (k : ℕ) (after : List Staged) (r : Result ℕ (Fail Refused)) (given : Result (Unit {0}) (Fail Stop)) → given ≡ numbered k r
      → Gives (result_map (λ count. (after, count)) r) (holding tables pending change) → Gives (result_map (λ _. with_pending tables after) given) (numbered_change (k, change) shown)
  step_gives k after r given e h = subst (λ (g : Result (Unit {0}) (Fail Stop)). Gives (result_map (λ _. with_pending tables after) g) (numbered_change (k, change) shown)) (sym e) (by r h)
    where
      by : (r : Result ℕ (Fail Refused)) → Gives (result_map (λ count. (after, count)) r) (holding tables pending change)
          → Gives (result_map (λ _. with_pending tables after) (numbered k r)) (numbered_change (k, change) shown)
      by (Ok count) h = ap (with_number k) (sym holding_is ∙ ap (result_map told) h)
      by (Err (fail.Cause refusal)) h = ap (with_number k) (sym holding_is ∙ ap (result_map told) h)
      by (Err fail.Memory) h = tt
