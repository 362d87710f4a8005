-- A change where it is applied: it is the step of a session, and it keeps the names of the tables.
use Rattle.std.proofs.Common.{◌≡◌, ℕ, [], ◌∷◌, map, Option, Some, None, Result, Ok, Err, OnErr, sym, ap, subst, ◌∙◌}
use Rattle.std.specs.Option.{ok_or}
use Rattle.mq_values.specs.Answers.{Gives, result_map}
use Rattle.mq_values.specs.declared.faults.Refused.{Refused}
use Rattle.mq_values.specs.declared.faults.Refused.TheVariants as refused
use Rattle.mq_values.specs.declared.memory.Fail.{Fail}
use Rattle.mq_values.specs.declared.memory.Fail.TheVariants as fail
use Rattle.mq_ir.specs.declared.catalog.Catalog.{Catalog}
use Rattle.mq_ir.specs.declared.statement.Change.{Change}
use Rattle.mq_ir.specs.Changes.{Changed, table_of}
use Rattle.mq_ir.specs.Lines.{Counted}
use Rattle.mq_ir.specs.Results.{◌>>=◌}
use Rattle.mq_ir.specs.Statement.{Printed, State, change_of_tables, change_step, staged, with_rows}
use Rattle.mq_ir.specs.Tables.{Table, Tables, table_at}
use Rattle.mq_tables.specs.InPlace.{applied}
use Rattle.mq_compared.specs.Applied.{applied_is}
use Rattle.mq_engine.specs.Catalogs.{entry_of_table, state_of}
use Rattle.mq_engine.proofs.CatalogLemmas.{entries_changed}

abbrev pub left : Tables → Catalog → ℕ → Printed
left tables k count = (state_of tables k, Counted count ∷ [])

module _ (tables : Tables) (change : Change) where
  abbrev done : Table → Changed → Tables × ℕ
  done table changed = (with_rows tables table.name changed.0, changed.1)

  abbrev change_of : Table → Result Changed Refused → Result (Tables × ℕ) Refused
  change_of table rows = rows >>= (λ changed. Ok (done table changed))

  abbrev unknown : Refused
  unknown = refused.UnknownName (table_of change)

  changed_as : (r : Result ℕ (Fail Refused)) (after : Tables) → Gives (result_map (λ count. (after, count)) r) (applied tables change)
      → Gives {T = Tables × ℕ} (result_map (λ count. (after, count)) r) (change_of_tables tables change)
  changed_as r after h = subst (Gives {T = Tables × ℕ} (result_map (λ count. (after, count)) r)) (applied_is tables change) h

  -- ---- so an applied change is the step of a session
  abbrev printed : Catalog → Tables × ℕ → Printed
  printed k changed = (record (state_of tables k) { tables = changed.0 }, Counted changed.1 ∷ [])

  printed_as : (k : Catalog) (r : Result ℕ (Fail Refused)) (after : Tables) → Gives {T = Tables × ℕ} (result_map (λ count. (after, count)) r) (change_of_tables tables change)
      → Gives {T = Printed} (result_map (left after k) r) (change_step (state_of tables k) change)
  printed_as k (Ok count) after h = ap (λ (m : Result (Tables × ℕ) Refused). m >>= (λ changed. Ok (printed k changed))) h
  printed_as k (Err (fail.Cause e)) after h = ap (λ (m : Result (Tables × ℕ) Refused). m >>= (λ changed. Ok (printed k changed))) h
  printed_as k (Err fail.Memory) after h = tt

  pub step_is : (k : Catalog) (state : State) → state_of tables k ≡ state → (r : Result ℕ (Fail Refused)) (after : Tables)
      → Gives (result_map (λ count. (after, count)) r) (applied tables change) → Gives {T = Printed} (result_map (left after k) r) (change_step state change)
  step_is k state is r after h =
      subst (λ (s : State). Gives {T = Printed} (result_map (left after k) r) (change_step s change)) is (printed_as k r after (changed_as r after h))

  -- ---- and the names stay
  rows_put : (table : Table) (rows : Result Changed Refused) (after : Tables) (count : ℕ) → change_of table rows ≡ Ok (after, count) → map entry_of_table after ≡ map entry_of_table tables
  rows_put table (Ok changed) after count h =
      let w : done table changed ≡ (after, count) = cc in
      ap (map entry_of_table) (sym (ap (λ (it : Tables × ℕ). it.0) w)) ∙ entries_changed tables table.name changed.0
  rows_put table (Err e) after count h = absurd (cc)

  table_put : (o : Option Table) (after : Tables) (count : ℕ) → (ok_or o unknown >>= (λ table. change_of table (staged tables table change))) ≡ Ok (after, count)
      → map entry_of_table after ≡ map entry_of_table tables
  table_put None after count h = absurd (cc)
  table_put (Some table) after count h = rows_put table (staged tables table change) after count h

  pub names_stay : (r : Result ℕ (Fail Refused)) (after : Tables) → Gives (result_map (λ count. (after, count)) r) (applied tables change) → OnErr r (after ≡ tables)
      → map entry_of_table after ≡ map entry_of_table tables
  names_stay (Ok count) after h e = table_put (table_at tables (table_of change)) after count (changed_as (Ok count) after h)
  names_stay (Err cause) after h e = ap (map entry_of_table) e
