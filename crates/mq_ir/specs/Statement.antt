-- The tables, views and scenarios of a session, and what a bound statement makes of a part of them.
use Rattle.std.specs.Prelude.{ℕ, ◌+◌, List, [], ◌∷◌, ◌++◌, length, map, not, if◌then◌else◌, Option, Some, None, Result, Ok, Err, unwrap_or}
use Rattle.std.specs.List.{filter, find, flat_map, list_any}
use Rattle.std.specs.Option.{ok_or, option_map, option_map_or}
use Rattle.mq_values.specs.declared.faults.Refused.{Refused}
use Rattle.mq_values.specs.declared.faults.Refused.TheVariants as refused
use Rattle.mq_ir.specs.declared.catalog.Scenario.{Scenario}
use Rattle.mq_ir.specs.declared.catalog.View.{View}
use Rattle.mq_ir.specs.declared.query.Answer.{Answer}
use Rattle.mq_ir.specs.declared.query.Answer.TheVariants.{Rows, Fault}
use Rattle.mq_ir.specs.declared.query.BoundQuery.{BoundQuery}
use Rattle.mq_ir.specs.declared.query.ModelPart.{ModelPart}
use Rattle.mq_ir.specs.declared.statement.Change.{Change}
use Rattle.mq_ir.specs.declared.statement.TableDef.{TableDef}
use Rattle.mq_ir.specs.Answer.{answer_of}
use Rattle.mq_ir.specs.Changes.{Changed, key_fault, rows_added, rows_changed, size_fault, table_of}
use Rattle.mq_ir.specs.Lines.{Line, Counted, Done, FaultLine, RowCount, RowLine}
use Rattle.mq_ir.specs.Partitions.{Tuple}
use Rattle.mq_ir.specs.Results.{◌>>=◌}
use Rattle.mq_ir.specs.Tables.{Table, Tables, is_name, table_at}

-- A block: the tables as its changes leave them, the line of its BEGIN, the sum of its row counts, and the line of its first
-- refused statement.
pub record Block : Type 0 where
  pub pending : Tables
  pub line : ℕ
  pub count : ℕ
  pub refused : Option ℕ

-- tables, views and scenarios, each in order of creation, and a block where one is there
pub record State : Type 0 where
  pub tables : Tables
  pub views : List View
  pub scenarios : List Scenario
  pub block : Option Block

-- a state with the lines that were printed
abbrev pub Printed : Type 0
Printed = State × List Line

-- a row a line, and then their number; or the fault alone
abbrev pub answer_lines : Answer → List Line
answer_lines (Rows rows) = map RowLine rows ++ RowCount (length rows) ∷ []
answer_lines (Fault f) = FaultLine f ∷ []

-- the tables that a query reads: those of its FROM, its references and its FOR subqueries
abbrev pub tables_of_model : ModelPart → List (List ℕ)
tables_of_model part = flat_map (λ r. r.source.from.tables) part.refs ++ flat_map (λ list. list.from.tables) part.lists

abbrev pub tables_read : BoundQuery → List (List ℕ)
tables_read q = q.from.tables ++ option_map_or tables_of_model q.model []

-- the first view by creation that reads a table, and the first scenario that changes it
abbrev pub first_reader : List View → List ℕ → Option View
first_reader views table = find (λ view. list_any (is_name table) (tables_read view.query)) views

abbrev pub first_changer : List Scenario → List ℕ → Option Scenario
first_changer scenarios table = find (λ s. list_any (λ c. is_name table (table_of c)) s.changes) scenarios

-- the refusal, where there is one, else what comes next
abbrev pub unless_refused : {A : Type 0} → Option Refused → Result A Refused → Result A Refused
unless_refused refusal next = option_map_or Err refusal next

-- ---- a change of a list of tables

-- the new rows of a table with their count; the size is judged first, and the keys last
abbrev pub staged : Tables → Table → Change → Result Changed Refused
staged tables table change =
    unless_refused (size_fault tables table (rows_added change)) (
    rows_changed table change >>= (λ changed. unless_refused (key_fault table.schema changed.0) (Ok changed)))

abbrev pub with_rows : Tables → List ℕ → List Tuple → Tables
with_rows tables name rows = map (λ (t : Table). if is_name name t.name then record t { rows = rows } else t) tables

-- the tables after a change, and how many rows are counted
abbrev pub change_of_tables : Tables → Change → Result (Tables × ℕ) Refused
change_of_tables tables change =
    ok_or (table_at tables (table_of change)) (refused.UnknownName (table_of change)) >>= (λ table.
    staged tables table change >>= (λ changed. Ok (with_rows tables table.name changed.0, changed.1)))

-- ---- statements outside of a block

abbrev pub change_step : State → Change → Result Printed Refused
change_step state change =
    change_of_tables state.tables change >>= (λ changed. Ok (record state { tables = changed.0 }, Counted changed.1 ∷ []))

abbrev pub create_table : State → TableDef → State
create_table state def = record state { tables = state.tables ++ record { name = def.name; schema = def.schema; rows = [] } ∷ [] }

-- a table that a view reads is in use, and then one that a scenario changes
abbrev pub use_of : State → List ℕ → Option Refused
use_of state name =
    let changer = option_map (λ s. refused.InUse s.name) (first_changer state.scenarios name) in
    option_map_or (λ view. Some (refused.InUse view.name)) (first_reader state.views name) changer

abbrev pub drop_table : State → List ℕ → Result Printed Refused
drop_table state name =
    unless_refused (use_of state name) (Ok (record state { tables = filter (λ t. not (is_name name t.name)) state.tables }, Done ∷ []))

abbrev pub create_view : State → List ℕ → BoundQuery → State
create_view state name query = record state { views = state.views ++ record { name = name; query = query } ∷ [] }

abbrev pub drop_view : State → List ℕ → State
drop_view state name = record state { views = filter (λ view. not (is_name name view.name)) state.views }

-- the view of this name
abbrev pub view_at : State → List ℕ → Option View
view_at state name = find (λ view. is_name name view.name) state.views

abbrev pub show_step : State → List ℕ → Result Printed Refused
show_step state name =
    ok_or (view_at state name) (refused.UnknownName name) >>= (λ view. Ok (state, answer_lines (answer_of state.tables view.query)))

-- ---- blocks

-- BEGIN on this line: the tables as they stand are pending
abbrev pub open_block : State → ℕ → State
open_block state line = record state { block = Some (record { pending = state.tables; line = line; count = 0; refused = None }) }

-- a change within a block is of its pending tables
abbrev pub hold_step : State → Block → Change → Result Printed Refused
hold_step state block change =
    change_of_tables block.pending change >>= (λ changed.
    Ok (record state { block = Some (record block { pending = changed.0; count = block.count + changed.1 }) }, Counted changed.1 ∷ []))

-- the state without its block
abbrev pub without_block : State → State
without_block state = record state { block = None }

-- COMMIT of a block in which nothing was refused makes its pending tables the tables
abbrev pub commit_step : State → Block → Result Printed Refused
commit_step state block =
    unless_refused (option_map refused.BlockBroken block.refused) (
    Ok (record (without_block state) { tables = block.pending }, Counted block.count ∷ []))

-- a statement of this line was refused in the block: the first such line is kept
abbrev pub with_refusal : ℕ → Block → Block
with_refusal line block = record block { refused = Some (unwrap_or block.refused line) }

abbrev pub note_refusal : State → ℕ → State
note_refusal state line = record state { block = option_map (with_refusal line) state.block }
