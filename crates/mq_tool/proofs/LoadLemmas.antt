-- A LOAD: rows that are found in a file, and then appended.
use Rattle.std.proofs.Common.{◌≡◌, ℕ, List, [], ◌∷◌, Bool, true, false, cond, map, Option, Some, None, Result, Ok, Err, refl, sym, ap, ◌∙◌, subst}
use Rattle.std.specs.Option.{ok_or, option_map, option_map_or}
use Rattle.std.specs.Prelude.{find}
use Rattle.std.proofs.lemmas.Cmp.{nat_list_eq_equiv}
use Rattle.mq_values.specs.declared.faults.Refused.{Refused}
use Rattle.mq_values.specs.declared.faults.Refused.TheVariants as refused
use Rattle.mq_values.specs.declared.memory.Fail.{Fail}
use Rattle.mq_ir.specs.declared.catalog.Catalog.{Catalog}
use Rattle.mq_ir.specs.declared.catalog.TableEntry.{TableEntry}
use Rattle.mq_ir.specs.declared.statement.Bound.TheVariants as bound
use Rattle.mq_ir.specs.declared.statement.Change.{Change}
use Rattle.mq_ir.specs.declared.statement.Change.TheVariants.{Append}
use Rattle.mq_ir.specs.declared.statement.Schema.{Schema}
use Rattle.mq_ir.specs.Partitions.{Tuple}
use Rattle.mq_ir.specs.Results.{◌>>=◌}
use Rattle.mq_ir.specs.Statement.{Block, Printed, State, change_step, hold_step}
use Rattle.mq_ir.specs.Tables.{Table, Tables, is_name, table_at}
use Rattle.mq_csvload.specs.Loading.{rows_in}
use Rattle.mq_engine.specs.Catalogs.{entry_of_table}
use Rattle.mq_tool.specs.declared.stops.Stop.{Stop}
use Rattle.mq_tool.specs.declared.stops.Stop.TheVariants as stop
use Rattle.mq_tool.specs.Loads.{FileMap, Found, file_bytes, load_change, rows_of_file}
use Rattle.mq_tool.specs.Statements.{taken}
use Rattle.mq_tool.specs.Steps.{Ends, Takes, changed}
use Rattle.mq_tool.proofs.BlockLemmas.{inside_is, outside_is, seen_tables}

-- the columns of a table of the catalog are those of the table
schema_found : (tables : Tables) (name : List ℕ)
    → option_map (λ (entry : TableEntry). entry.schema) (find (λ (entry : TableEntry). is_name entry.name name) (map entry_of_table tables))
    ≡ option_map (λ (t : Table). t.schema) (table_at tables name)
schema_found [] name = refl
schema_found (t ∷ ts) name =
    ap (λ b. option_map (λ (entry : TableEntry). entry.schema) (cond b (Some (entry_of_table t)) (find (λ (entry : TableEntry). is_name entry.name name) (map entry_of_table ts))))
    (nat_list_eq_equiv.symm t.name name)
    ∙ by (is_name name t.name) (schema_found ts name)
  where
    by : (b : Bool)
        → option_map (λ (entry : TableEntry). entry.schema) (find (λ (entry : TableEntry). is_name entry.name name) (map entry_of_table ts))
        ≡ option_map (λ (t : Table). t.schema) (table_at ts name)
        → option_map (λ (entry : TableEntry). entry.schema) (cond b (Some (entry_of_table t)) (find (λ (entry : TableEntry). is_name entry.name name) (map entry_of_table ts)))
        ≡ option_map (λ (t : Table). t.schema) (cond b (Some t) (table_at ts name))
    by true h = refl
    by false h = h

-- the change of a LOAD is that of the rows that are found
load_parts : (files : FileMap) (tables : Tables) (catalog : Catalog) (step : Change → Result Printed Refused) (table file : List ℕ) → catalog.tables ≡ map entry_of_table tables
    → (load_change files tables table file >>= step) ≡ rows_of_file files catalog table file >>= (λ rows. step (Append table rows))
load_parts files tables catalog step table file entries =
    by (table_at tables table)
    ∙ ap (λ (s : Option Schema). (ok_or s (refused.UnknownName table) >>= rows_by) >>= append) (sym (schema_found tables table))
    ∙ ap (λ (es : List TableEntry). (ok_or (option_map (λ (entry : TableEntry). entry.schema) (find (λ (entry : TableEntry). is_name entry.name table) es)) (refused.UnknownName table) >>= rows_by) >>= append) (sym entries)
  where
    append : List Tuple → Result Printed Refused
    append rows = step (Append table rows)

    rows_by : Schema → Result (List Tuple) Refused
    rows_by schema = file_bytes files file >>= (λ bytes. rows_in bytes schema)

    change_by : Schema → List ℕ → Result Change Refused
    change_by schema bytes = rows_in bytes schema >>= (λ rows. Ok (Append table rows))

    rows_first : (r : Result (List Tuple) Refused) → ((r >>= (λ rows. Ok (Append table rows))) >>= step) ≡ (r >>= append)
    rows_first (Ok rows) = refl
    rows_first (Err e) = refl

    bytes_first : (schema : Schema) (r : Result (List ℕ) Refused)
        → ((r >>= change_by schema) >>= step) ≡ ((r >>= (λ bytes. rows_in bytes schema)) >>= append)
    bytes_first schema (Ok bytes) = rows_first (rows_in bytes schema)
    bytes_first schema (Err e) = refl

    by : (o : Option Table)
        → ((ok_or o (refused.UnknownName table) >>= (λ t. file_bytes files file >>= change_by t.schema)) >>= step)
        ≡ (ok_or (option_map (λ (t : Table). t.schema) o) (refused.UnknownName table) >>= rows_by) >>= append
    by None = refl
    by (Some t) = bytes_first t.schema (file_bytes files file)

-- the same of the tables or of those that are pending in a block
load_taken : (files : FileMap) (state : State) (line : ℕ) (catalog : Catalog) (table file : List ℕ) → catalog.tables ≡ map entry_of_table (seen_tables state)
    → taken files state line (bound.Load table file) ≡ rows_of_file files catalog table file >>= (λ rows. changed state (Append table rows))
load_taken files state line catalog table file entries = by state.block refl
  where
    seen : (o : Option Block) → state.block ≡ o → catalog.tables ≡ map entry_of_table (option_map_or (λ (block : Block). block.pending) o state.tables)
    seen o e = entries ∙ ap (λ (o : Option Block). map entry_of_table (option_map_or (λ (block : Block). block.pending) o state.tables)) e

    back : (o : Option Block) → state.block ≡ o
        → (rows_of_file files catalog table file
        >>= (λ rows. elim o [ None ↦ change_step state (Append table rows) | Some block ↦ hold_step state block (Append table rows) ]))
        ≡ rows_of_file files catalog table file >>= (λ rows. changed state (Append table rows))
    back o e =
        ap (λ (o : Option Block). rows_of_file files catalog table file
        >>= (λ rows. elim o [ None ↦ change_step state (Append table rows) | Some block ↦ hold_step state block (Append table rows) ])) (sym e)

    by : (o : Option Block) → state.block ≡ o
        → taken files state line (bound.Load table file) ≡ rows_of_file files catalog table file >>= (λ rows. changed state (Append table rows))
    by None e =
        outside_is files state line (bound.Load table file) e
        ∙ load_parts files state.tables catalog (change_step state) table file (seen None e)
        ∙ back None e
    by (Some block) e =
        inside_is files state line (bound.Load table file) block e
        ∙ load_parts files block.pending catalog (hold_step state block) table file (seen (Some block) e)
        ∙ back (Some block) e

-- rows that were found are appended
pub loads : (files : FileMap) (line : ℕ) (old new : State) (catalog : Catalog) (table file : List ℕ) (rows : List Tuple) (before after : List ℕ) (result : Result Bool (Fail Refused))
    → catalog.tables ≡ map entry_of_table (seen_tables old) → Found (Ok rows) (rows_of_file files catalog table file)
    → Takes (changed old (Append table rows)) old new before after result → Takes (taken files old line (bound.Load table file)) old new before after result
loads files line old new catalog table file rows before after result entries found takes =
    let meant : changed old (Append table rows) ≡ taken files old line (bound.Load table file) =
    sym (load_taken files old line catalog table file entries ∙ ap (λ (r : Result (List Tuple) Refused). r >>= (λ rows. changed old (Append table rows))) found) in
    subst (λ (m : Result Printed Refused). Takes m old new before after result) meant takes

-- where none were found the refusal is the statement's
pub loads_none : (files : FileMap) (line : ℕ) (old : State) (catalog : Catalog) (table file : List ℕ) (before : List ℕ) (e : Stop)
    → catalog.tables ≡ map entry_of_table (seen_tables old) → Found (Err e) (rows_of_file files catalog table file)
    → Ends (taken files old line (bound.Load table file)) old old before before (Err e)
loads_none files line old catalog table file before (stop.Refused r) entries found =
    (load_taken files old line catalog table file entries ∙ ap (λ (r : Result (List Tuple) Refused). r >>= (λ rows. changed old (Append table rows))) found, refl, refl)
loads_none files line old catalog table file before stop.NotFetched entries found = tt
loads_none files line old catalog table file before stop.Memory entries found = tt
