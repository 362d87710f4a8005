-- The parts of statements behind the names of their tables.
use Rattle.std.specs.Prelude.{List, Result, Ok}
use Rattle.mq_values.specs.declared.faults.Refused.{Refused}
use Rattle.mq_ast.specs.declared.queries.Query.{Query}
use Rattle.mq_ast.specs.declared.statements.ChangeTree.{ChangeTree}
use Rattle.mq_ast.specs.declared.statements.ColDef.{ColDef}
use Rattle.mq_ir.specs.declared.catalog.Catalog.{Catalog}
use Rattle.mq_ir.specs.declared.statement.Bound.{Bound}
use Rattle.mq_ir.specs.declared.statement.Bound.TheVariants as bound
use Rattle.mq_ir.specs.Results.{◌>>=◌}
use Rattle.mq_binder.specs.ChangeWalk.{change_bound}
use Rattle.mq_bind_scopes.specs.Names.{Name}
use Rattle.mq_binder.specs.QueryWalk.{query_bound}
use Rattle.mq_binder.specs.TableWalk.{table_bound}

abbrev pub table_created : Catalog → Name → List ColDef → List Name → Result Bound Refused
table_created catalog name cols key = table_bound catalog name cols key >>= (λ def. Ok (bound.CreateTable def))

abbrev pub table_changed : Catalog → ChangeTree → Result Bound Refused
table_changed catalog tree = change_bound catalog tree >>= (λ c. Ok (bound.Change c))

abbrev pub rows_asked : Catalog → Query → Result Bound Refused
rows_asked catalog q = query_bound catalog q >>= (λ b. Ok (bound.Query b))
