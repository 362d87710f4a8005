-- What is left of binding without a table: each query that does not read it.
use Rattle.std.specs.Prelude.{◌≡◌, false, not, Ok}
use Rattle.std.specs.List.{filter, list_any}
use Rattle.mq_ast.specs.declared.queries.Query.{Query}
use Rattle.mq_ir.specs.declared.catalog.Catalog.{Catalog}
use Rattle.mq_ir.specs.declared.catalog.TableEntry.{TableEntry}
use Rattle.mq_ir.specs.declared.query.BoundQuery.{BoundQuery}
use Rattle.mq_ir.specs.Statement.{tables_read}
use Rattle.mq_ir.specs.Tables.{is_name}
use Rattle.mq_bind_scopes.specs.Names.{Name}
use Rattle.mq_binder.specs.QueryWalk.{query_bound}

-- a catalog without the table of a name
abbrev pub without_table : Catalog → Name → Catalog
without_table catalog name = record {
  tables = filter (λ (t : TableEntry). not (is_name name t.name)) catalog.tables;
  views = catalog.views;
  scenarios = catalog.scenarios;
}

-- A query that is bound, and does not read the table of this name, is bound to the same without it.
abbrev pub QueryOutlastsTable : Catalog → Name → Query → BoundQuery → Type 0
QueryOutlastsTable catalog name q b =
    query_bound catalog q ≡ Ok b → list_any (is_name name) (tables_read b) ≡ false → query_bound (without_table catalog name) q ≡ Ok b
