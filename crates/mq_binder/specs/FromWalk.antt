-- The rows of a query: the FROM items, then the ON conditions, WHERE, and GROUP BY.
use Rattle.std.specs.Prelude.{ℕ, List, [], ◌∷◌, ◌++◌, length, map, Bool, false, nat_lt, Option, Some, None, Result, Ok}
use Rattle.std.specs.List.{enumerate_from, list_any}
use Rattle.std.specs.Option.{ok_or, option_map_or}
use Rattle.mq_lexer.specs.Words.{folded}
use Rattle.mq_values.specs.declared.faults.Refused.{Refused}
use Rattle.mq_values.specs.declared.limits.TheConstants.{MAX_FROM_ITEMS}
use Rattle.mq_ast.specs.declared.expressions.Path.{Path}
use Rattle.mq_ast.specs.declared.queries.FromItem.{FromItem}
use Rattle.mq_ast.specs.declared.queries.Plain.{Plain}
use Rattle.mq_ir.specs.declared.catalog.Catalog.{Catalog}
use Rattle.mq_ir.specs.declared.expression.Expr.{Expr}
use Rattle.mq_ir.specs.declared.limit_numbers.TheConstants.{LIMIT_OF_FROM_ITEMS}
use Rattle.mq_ir.specs.declared.query.ColRef.{ColRef}
use Rattle.mq_ir.specs.declared.statement.Column.{Column}
use Rattle.mq_ir.specs.declared.statement.Schema.{Schema}
use Rattle.mq_ir.specs.Names.{schema_of}
use Rattle.mq_ir.specs.Results.{◌>>=◌, each, each_in_turn}
use Rattle.mq_ir.specs.Tables.{is_name}
use Rattle.mq_binder.specs.declared.found.Base.{Base}
use Rattle.mq_binder.specs.declared.found.Sources.{Sources}
use Rattle.mq_bind_scopes.specs.declared.scopes.ModelNames.{ModelNames}
use Rattle.mq_bind_scopes.specs.declared.scopes.Part.TheVariants as part
use Rattle.mq_bind_scopes.specs.declared.scopes.RowColumn.{RowColumn}
use Rattle.mq_bind_scopes.specs.declared.scopes.Scope.{Scope}
use Rattle.mq_bind_expr.specs.ExpressionWalk.{bound_filter}
use Rattle.mq_bind_expr.specs.Steps.{each_from}
use Rattle.mq_bind_scopes.specs.Kinds.{of_column}
use Rattle.mq_bind_scopes.specs.Names.{Name, column_named}
use Rattle.mq_bind_scopes.specs.Positions.{standing, standing_on}
use Rattle.mq_bind_scopes.specs.Refusals.{duplicate_name, limit, refused_where, unknown_name}

-- the columns of the table of a name
abbrev pub table_called : Catalog → Name → Result Schema Refused
table_called catalog name = ok_or (schema_of catalog name) (unknown_name name)

-- the columns of a FROM item
abbrev pub column_of_item : ℕ → ℕ → Column → RowColumn
column_of_item item n c = record { name = c.name; kind = of_column c.kind; at = record { item = item; column = n } }

abbrev pub columns_of_item : ℕ → Schema → List RowColumn
columns_of_item item schema = map (λ (p : ℕ × Column). column_of_item item p.0 p.1) (enumerate_from 0 schema.cols)

-- where no alias is given, the table's name is the alias
abbrev pub alias_of : FromItem → Name
alias_of item = option_map_or folded item.alias (folded item.table)

abbrev pub no_sources : Sources
no_sources = record { tables = []; aliases = []; columns = [] }

abbrev pub with_item : Sources → FromItem → Schema → Sources
with_item seen item schema = record {
  tables = seen.tables ++ folded item.table ∷ [];
  aliases = seen.aliases ++ alias_of item ∷ [];
  columns = seen.columns ++ columns_of_item (length seen.tables) schema;
}

-- a FROM item behind the others: its table is there, and its alias is new
abbrev pub item_seen : Catalog → FromItem → Sources → Result Sources Refused
item_seen catalog item seen =
    table_called catalog (folded item.table) >>= (λ schema.
    refused_where (list_any (is_name (alias_of item)) seen.aliases) (duplicate_name (alias_of item)) (Ok (with_item seen item schema)))

abbrev pub sources_of : Catalog → List FromItem → Result Sources Refused
sources_of catalog froms =
    each_in_turn (item_seen catalog) froms no_sources >>= (λ seen.
    refused_where (nat_lt MAX_FROM_ITEMS (length seen.tables)) (limit LIMIT_OF_FROM_ITEMS) (Ok seen))

-- what names mean over rows
abbrev pub no_model : ModelNames
no_model = record { dims = []; measures = []; refs = []; iterates = false }

abbrev pub row_scope : List Name → List RowColumn → Scope
row_scope aliases columns = record { aliases = aliases; columns = columns; group = None; shown = []; model = no_model }

-- each ON condition sees the FROM items up to its own
abbrev pub on_bound : Scope → ℕ → FromItem → Result (Option Expr) Refused
on_bound scope n item = bound_filter scope (standing_on n) item.on

abbrev pub grouping : Scope → Path → Result ColRef Refused
grouping scope path = column_named scope (standing part.Row) path >>= (λ c. Ok c.0)

abbrev pub base_over : Plain → List Name → Scope → Result Base Refused
base_over p tables scope =
    each_from (on_bound scope) 0 p.froms >>= (λ ons.
    bound_filter scope (standing part.Row) p.filter >>= (λ filter.
    each (grouping scope) p.group >>= (λ cols.
    Ok (record { from = record { tables = tables; ons = ons; filter = filter }; scope = scope; cols = cols }))))

abbrev pub base_of : Catalog → Plain → Result Base Refused
base_of catalog p = sources_of catalog p.froms >>= (λ seen. base_over p seen.tables (row_scope seen.aliases seen.columns))

-- the columns of GROUP BY, where a query is grouped: where it has some, or an aggregate
abbrev pub group_of : List ColRef → Bool → Option (List ColRef)
group_of [] false = None
group_of cols _ = Some cols

abbrev pub grouped_by : Option (List ColRef) → Scope → Scope
grouped_by group scope =
    record { aliases = scope.aliases; columns = scope.columns; group = group; shown = scope.shown; model = scope.model }
