-- What is bound fits what it is bound under.
use Rattle.std.specs.Prelude.{◌≡◌, ℕ, List, Bool, true, false, ◌&&◌, nat_lt, Result, Ok, IfOk, slice_index_or}
use Rattle.std.specs.List.{list_all}
use Rattle.std.specs.Option.{option_map_or}
use Rattle.mq_values.specs.declared.faults.Refused.{Refused}
use Rattle.mq_values.specs.declared.memory.Fail.{Fail}
use Rattle.mq_ast.specs.declared.expressions.E.{E}
use Rattle.mq_ast.specs.declared.queries.Plain.{Plain}
use Rattle.mq_ast.specs.declared.queries.Query.{Query}
use Rattle.mq_ast.specs.declared.statements.ColDef.{ColDef}
use Rattle.mq_ast.specs.declared.statements.Stmt.{Stmt}
use Rattle.mq_ir.specs.declared.catalog.Catalog.{Catalog}
use Rattle.mq_ir.specs.declared.query.BoundQuery.{BoundQuery}
use Rattle.mq_ir.specs.declared.statement.Bound.{Bound}
use Rattle.mq_ir.specs.declared.statement.TableDef.{TableDef}
use Rattle.mq_ir.specs.Fits.{from_fits, plain_fits, query_fits, row_scope}
use Rattle.mq_ir.specs.FitsExpression.{expression_fits}
use Rattle.mq_ir.specs.FitsStatement.{fits, schema_fits}
use Rattle.mq_bind_scopes.specs.declared.scopes.Found.{Found}
use Rattle.mq_bind_scopes.specs.declared.scopes.Part.{Part}
use Rattle.mq_bind_scopes.specs.declared.scopes.Part.TheVariants as part
use Rattle.mq_bind_scopes.specs.declared.scopes.RowColumn.{RowColumn}
use Rattle.mq_bind_scopes.specs.declared.scopes.Scope.{Scope}
use Rattle.mq_bind_expr.specs.ExpressionWalk.{bound}
use Rattle.mq_bind_scopes.specs.Names.{Name}
use Rattle.mq_bind_scopes.specs.Positions.{standing}
use Rattle.mq_binder.specs.declared.found.Base.{Base}
use Rattle.mq_binder.specs.declared.found.PlainFound.{PlainFound}
use Rattle.mq_binder.specs.FromWalk.{base_of, no_model}
use Rattle.mq_binder.specs.PlainWalk.{plain_bound}
use Rattle.mq_binder.specs.QueryWalk.{query_bound}
use Rattle.mq_binder.specs.StatementWalk.{statement_bound}
use Rattle.mq_binder.specs.TableWalk.{table_bound}
use Rattle.mq_binder.specs.WithinLimits.{columns_within, measures_named, names_measures}
use Rattle.mq_binder.specs.Literals.{is_within, literals_fit}
use Rattle.mq_binder.specs.StatementLiterals.{plain_literals, query_literals, statement_literals}

-- a column in sight is one of a FROM item, of which each has so many columns
abbrev pub column_stands : List ℕ → RowColumn → Bool
column_stands widths c = nat_lt c.at.column (slice_index_or widths c.at.item 0) && is_within c.kind

abbrev pub is_over_rows : Part → Bool
is_over_rows part.Row = true
is_over_rows part.Item = true
is_over_rows _ = false

-- An expression over rows, as WHERE, an item or a value of a change, names columns of these rows alone.
abbrev pub RowExpressionFits : List ℕ → Scope → Part → E → Found → Type 0
RowExpressionFits widths scope p e f =
    list_all (column_stands widths) scope.columns ≡ true → scope.model ≡ no_model → is_over_rows p ≡ true → literals_fit e ≡ true
    → bound scope e (standing p) ≡ Ok f → expression_fits (row_scope widths) f.e ≡ true

-- The rows of a query fit the catalog: its FROM items, each ON condition over the items up to its own, and WHERE.
abbrev pub BaseFits : Catalog → Plain → Base → Type 0
BaseFits catalog p base =
    columns_within catalog ≡ true → plain_literals p ≡ true → base_of catalog p ≡ Ok base → from_fits catalog base.from ≡ true

-- So does a query without MODEL, as in a reference and in a FOR.
abbrev pub PlainQueryFits : Catalog → Plain → PlainFound → Type 0
PlainQueryFits catalog p found =
    columns_within catalog ≡ true → plain_literals p ≡ true → plain_bound catalog p ≡ Ok found → plain_fits catalog found.part ≡ true

-- So does a query with MODEL: its lists, references, FORs, left sides, right sides, UNTIL, SELECT list and order.
abbrev pub QueryFits : Catalog → Query → BoundQuery → Type 0
QueryFits catalog q b = columns_within catalog ≡ true → query_literals q ≡ true → query_bound catalog q ≡ Ok b → query_fits catalog b ≡ true

-- A bound statement fits the catalog that it is bound under.
abbrev pub StatementFits : Catalog → Stmt → Bound → Type 0
StatementFits catalog s b =
    columns_within catalog ≡ true → measures_named catalog ≡ true → statement_literals s ≡ true
    → statement_bound catalog s ≡ Ok b → fits catalog b ≡ true

-- So does what a call gave for it.
abbrev pub AnswerFits : Catalog → Stmt → Result Bound (Fail Refused) → Type 0
AnswerFits catalog s r =
    columns_within catalog ≡ true → measures_named catalog ≡ true → statement_literals s ≡ true → IfOk r (λ b. fits catalog b ≡ true)

-- A table that is created has columns and a key within the limits, whatever there is.
abbrev pub SchemaFits : Catalog → Name → List ColDef → List Name → TableDef → Type 0
SchemaFits catalog name cols key def = table_bound catalog name cols key ≡ Ok def → schema_fits def.schema ≡ true

-- The model of a query has a name for each measure, whatever there is.
abbrev pub MeasuresAreNamed : Catalog → Query → BoundQuery → Type 0
MeasuresAreNamed catalog q b = query_bound catalog q ≡ Ok b → option_map_or names_measures b.model true ≡ true
