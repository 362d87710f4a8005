-- The laws of what fits, each as its contract has it.
use Rattle.std.proofs.Common.{◌≡◌, ℕ, List, true}
use Rattle.std.specs.Prelude.{nat_lt, slice_index_or}
use Rattle.std.specs.List.{list_all}
use Rattle.mq_ast.specs.declared.expressions.E.{E}
use Rattle.mq_ast.specs.declared.queries.Plain.{Plain}
use Rattle.mq_ast.specs.declared.queries.Query.{Query}
use Rattle.mq_ast.specs.declared.statements.ColDef.{ColDef}
use Rattle.mq_ast.specs.declared.statements.Stmt.{Stmt}
use Rattle.mq_ir.specs.declared.catalog.Catalog.{Catalog}
use Rattle.mq_ir.specs.declared.query.BoundQuery.{BoundQuery}
use Rattle.mq_ir.specs.declared.statement.Bound.{Bound}
use Rattle.mq_ir.specs.declared.statement.TableDef.{TableDef}
use Rattle.mq_ir.specs.FitsStatement.{fits}
use Rattle.mq_bind_scopes.specs.declared.scopes.Found.{Found}
use Rattle.mq_bind_scopes.specs.declared.scopes.Part.{Part}
use Rattle.mq_bind_scopes.specs.declared.scopes.Part.TheVariants as part
use Rattle.mq_bind_scopes.specs.declared.scopes.RowColumn.{RowColumn}
use Rattle.mq_bind_scopes.specs.declared.scopes.Scope.{Scope}
use Rattle.mq_bind_scopes.specs.Names.{Name}
use Rattle.mq_binder.specs.declared.found.Base.{Base}
use Rattle.mq_binder.specs.declared.found.PlainFound.{PlainFound}
use Rattle.mq_binder.specs.FromWalk.{no_model}
use Rattle.mq_binder.specs.FitLaws.{BaseFits, MeasuresAreNamed, PlainQueryFits, QueryFits, RowExpressionFits, SchemaFits, StatementFits, column_stands}
use Rattle.mq_binder.specs.Literals.{is_within}
use Rattle.mq_binder.proofs.FromLemmas.{RowColumnFits, RowsFit, base_fits, each_then}
use Rattle.mq_binder.proofs.NamedLemmas.{query_names}
use Rattle.mq_binder.proofs.PlainLemmas.{item_found, plain_fit, value_found}
use Rattle.mq_binder.proofs.QueryFitLemmas.{query_fit}
use Rattle.mq_binder.proofs.StatementFitLemmas.{columns_and_key_fit, statement_fits}
use Rattle.mq_binder.proofs.FitStepLemmas.{each_all, left_of, right_of}

-- ---- expressions
rows_of : (widths : List ℕ) (scope : Scope) → list_all (column_stands widths) scope.columns ≡ true → scope.model ≡ no_model → RowsFit widths scope
rows_of widths scope h m = record {
  columns =
      each_then (λ (c : RowColumn). column_stands widths c ≡ true) (RowColumnFits widths) scope.columns
      (λ c k. record {
        below = left_of (nat_lt c.at.column (slice_index_or widths c.at.item 0)) (is_within c.kind) k;
        within = right_of (nat_lt c.at.column (slice_index_or widths c.at.item 0)) (is_within c.kind) k;
      }) (each_all (column_stands widths) scope.columns h);
  model = m;
}

pub row_expression_fits : (widths : List ℕ) (scope : Scope) (p : Part) (e : E) (f : Found) → RowExpressionFits widths scope p e f
row_expression_fits widths scope part.Row e f c m p lit h = (value_found widths scope (rows_of widths scope c m) e lit f h).0
row_expression_fits widths scope part.Item e f c m p lit h = (item_found widths scope (rows_of widths scope c m) e lit f h).0
row_expression_fits widths scope part.Shown e f c m p lit h = absurd cc
row_expression_fits widths scope part.Left e f c m p lit h = absurd cc
row_expression_fits widths scope part.Right e f c m p lit h = absurd cc
row_expression_fits widths scope part.Until e f c m p lit h = absurd cc

-- ---- queries and statements
pub base_is : (catalog : Catalog) (p : Plain) (base : Base) → BaseFits catalog p base
base_is catalog p base within lit h = (base_fits catalog within p lit base h).from

pub plain_is : (catalog : Catalog) (p : Plain) (found : PlainFound) → PlainQueryFits catalog p found
plain_is catalog p found within lit h = (plain_fit catalog within p lit found h).fits

pub query_is : (catalog : Catalog) (q : Query) (b : BoundQuery) → QueryFits catalog q b
query_is catalog q b within lit h = query_fit catalog within q lit b h

pub statement_is : (catalog : Catalog) (x : Stmt) (b : Bound) → StatementFits catalog x b
statement_is catalog x b within named lit h = statement_fits catalog within named x lit b h

pub schema_is : (catalog : Catalog) (name : Name) (cols : List ColDef) (key : List Name) (def : TableDef) → SchemaFits catalog name cols key def
schema_is catalog name cols key def h = columns_and_key_fit catalog name cols key def h

pub measures_are : (catalog : Catalog) (q : Query) (b : BoundQuery) → MeasuresAreNamed catalog q b
measures_are catalog q b h = query_names catalog q b h
