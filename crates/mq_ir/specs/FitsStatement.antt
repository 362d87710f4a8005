-- Statements that are bound under a catalog.
use Rattle.std.specs.Prelude.{ℕ, List, [], ◌∷◌, ◌++◌, length, Bool, true, false, ◌&&◌, ◌||◌, not, ◌==◌, nat_lt, nat_le}
use Rattle.std.specs.List.{list_all, zip}
use Rattle.std.specs.Option.{option_map_or}
use Rattle.mq_values.specs.Aggregate.{is_value}
use Rattle.mq_values.specs.Laws.{is_of}
use Rattle.mq_ir.specs.declared.statement.Bound.{Bound}
use Rattle.mq_ir.specs.declared.statement.Bound.TheVariants as bound
use Rattle.mq_ir.specs.declared.statement.Change.{Change}
use Rattle.mq_ir.specs.declared.statement.Change.TheVariants.{Insert, Append, Update, Delete}
use Rattle.mq_ir.specs.declared.statement.Column.{Column}
use Rattle.mq_ir.specs.declared.statement.Schema.{Schema}
use Rattle.mq_ir.specs.declared.expression.Expr.{Expr}
use Rattle.mq_values.specs.declared.value.Kind.{Kind}
use Rattle.mq_values.specs.declared.value.Kind.TheVariants as kind
use Rattle.mq_values.specs.declared.value.Value.{Value}
use Rattle.mq_values.specs.declared.value.Value.TheVariants as value
use Rattle.mq_ir.specs.declared.catalog.Catalog.{Catalog}
use Rattle.mq_ir.specs.Changes.{table_of}
use Rattle.mq_ir.specs.Names.{change_count, is_scenario, is_table, is_taken, is_view, model_of, schema_of}
use Rattle.mq_ir.specs.Fits.{fits_if_there, query_fits, row_scope}
use Rattle.mq_ir.specs.FitsExpression.{expression_fits, kind_fits}
use Rattle.mq_values.specs.declared.limits.TheConstants.{MAX_COLUMNS, MAX_COMPARED, MAX_SCENARIO_CHANGES, MAX_SCENARIOS, MAX_TABLES, MAX_VIEWS}
use Rattle.mq_ir.specs.Partitions.{Tuple}
use Rattle.mq_ir.specs.declared.query.ModelPart.{ModelPart}
use Rattle.mq_ir.specs.declared.statement.CellAsked.{CellAsked}

abbrev pub schema_fits : Schema → Bool
schema_fits schema =
    nat_le (length schema.cols) MAX_COLUMNS && list_all (λ col. kind_fits col.kind) schema.cols
    && list_all (λ c. nat_lt c (length schema.cols)) schema.key

-- a value that a column of the kind may hold; of a day the type itself makes sure that it is in the range
abbrev pub may_hold : Kind → Value → Bool
may_hold kind.Date (value.Date day) = true
may_hold k v = is_of k v

-- each value is null or of the column's kind, and it is not null where the column is NOT NULL
abbrev pub value_fits : Column × Value → Bool
value_fits (col, v) = may_hold col.kind v && (is_value v || not col.not_null)

-- one value for each column
abbrev pub is_row_of : Schema → Tuple → Bool
is_row_of schema row = (length row == length schema.cols) && list_all value_fits (zip schema.cols row)

abbrev pub inserts_fit : Schema → List Expr → Bool
inserts_fit schema es = (length es == length schema.cols) && list_all (expression_fits (row_scope [])) es

abbrev pub set_fits : Schema → ℕ × Expr → Bool
set_fits schema (c, e) = nat_lt c (length schema.cols) && expression_fits (row_scope (length schema.cols ∷ [])) e

-- a change of a table with these columns
abbrev pub change_fits_schema : Schema → Change → Bool
change_fits_schema schema (Insert name rows) = list_all (inserts_fit schema) rows
change_fits_schema schema (Append name rows) = list_all (is_row_of schema) rows
change_fits_schema schema (Update name sets filter) =
    list_all (set_fits schema) sets && fits_if_there (row_scope (length schema.cols ∷ [])) filter
change_fits_schema schema (Delete name filter) = fits_if_there (row_scope (length schema.cols ∷ [])) filter

abbrev pub change_fits : Catalog → Change → Bool
change_fits catalog change = option_map_or (λ schema. change_fits_schema schema change) (schema_of catalog (table_of change)) false

-- a scenario that is there may take this change in
abbrev pub under_fits : Catalog → List ℕ → Change → Bool
under_fits catalog scenario change =
    is_scenario catalog scenario && change_fits catalog change && nat_lt (change_count catalog scenario) MAX_SCENARIO_CHANGES

abbrev pub comparison_fits : Catalog → List ℕ → List (List ℕ) → Bool
comparison_fits catalog view scenarios =
    is_view catalog view && list_all (is_scenario catalog) scenarios && nat_le (length scenarios) MAX_COMPARED

-- a cell of a model in automatic order: one of its measures, and a value for each column of its partition and each dimension
abbrev pub cell_fits : CellAsked → ModelPart → Bool
cell_fits asked part =
    part.auto && nat_lt asked.measure (length part.measures)
    && (length asked.part == length part.part_kinds) && (length asked.cell == length part.dims)
    && list_all (expression_fits (row_scope [])) (asked.part ++ asked.cell)

abbrev pub fits : Catalog → Bound → Bool
fits catalog (bound.CreateTable def) =
    not (is_taken catalog def.name) && nat_lt (length catalog.tables) MAX_TABLES && schema_fits def.schema
fits catalog (bound.DropTable name) = is_table catalog name
fits catalog (bound.CreateView name q) = not (is_taken catalog name) && nat_lt (length catalog.views) MAX_VIEWS && query_fits catalog q
fits catalog (bound.DropView name) = is_view catalog name
fits catalog (bound.Change change) = change_fits catalog change
fits catalog (bound.Load table file) = is_table catalog table
fits catalog (bound.Show name) = true
fits catalog (bound.Query q) = query_fits catalog q
fits catalog bound.Begin = true
fits catalog bound.Commit = true
fits catalog bound.Rollback = true
fits catalog (bound.CreateScenario name) = not (is_taken catalog name) && nat_lt (length catalog.scenarios) MAX_SCENARIOS
fits catalog (bound.DropScenario name) = is_scenario catalog name
fits catalog (bound.Under scenario change) = under_fits catalog scenario change
fits catalog (bound.Compare view scenarios) = comparison_fits catalog view scenarios
fits catalog (bound.ExplainCell asked) = option_map_or (cell_fits asked) (model_of catalog asked.view) false
