-- The walk over a statement: what it is bound to under a catalog, or its first offence.
use Rattle.std.specs.Prelude.{List, length, not, nat_le, Result, Ok}
use Rattle.mq_lexer.specs.Words.{folded}
use Rattle.mq_values.specs.declared.faults.Refused.{Refused}
use Rattle.mq_values.specs.declared.limits.TheConstants.{MAX_VIEWS}
use Rattle.mq_ast.specs.declared.expressions.E.{E}
use Rattle.mq_ast.specs.declared.queries.Query.{Query}
use Rattle.mq_ast.specs.declared.statements.Stmt.{Stmt}
use Rattle.mq_ast.specs.declared.statements.Stmt.TheVariants as stmt
use Rattle.mq_ir.specs.declared.catalog.Catalog.{Catalog}
use Rattle.mq_ir.specs.declared.limit_numbers.TheConstants.{LIMIT_OF_VIEWS}
use Rattle.mq_ir.specs.declared.statement.Bound.{Bound}
use Rattle.mq_ir.specs.declared.statement.Bound.TheVariants as bound
use Rattle.mq_ir.specs.Names.{is_table, is_view}
use Rattle.mq_ir.specs.Results.{◌>>=◌}
use Rattle.mq_binder.specs.CellWalk.{cell_bound}
use Rattle.mq_binder.specs.ChangeWalk.{change_bound}
use Rattle.mq_bind_scopes.specs.Names.{Name}
use Rattle.mq_binder.specs.QueryWalk.{query_bound}
use Rattle.mq_bind_scopes.specs.Refusals.{limit, refused_where, unknown_name}
use Rattle.mq_binder.specs.ScenarioWalk.{comparison_bound, scenario_created, scenario_dropped, under_bound}
use Rattle.mq_binder.specs.TableWalk.{new_name, table_bound}

-- the name of a table, and that of a view
abbrev pub if_table : Catalog → Name → Bound → Result Bound Refused
if_table catalog name b = refused_where (not (is_table catalog name)) (unknown_name name) (Ok b)

abbrev pub if_view : Catalog → Name → Bound → Result Bound Refused
if_view catalog name b = refused_where (not (is_view catalog name)) (unknown_name name) (Ok b)

-- CREATE VIEW: the name, the number of views, the query
abbrev pub view_bound : Catalog → Name → Query → Result Bound Refused
view_bound catalog name q =
    new_name catalog name (
    refused_where (nat_le MAX_VIEWS (length catalog.views)) (limit LIMIT_OF_VIEWS) (
    query_bound catalog q >>= (λ b. Ok (bound.CreateView name b))))

-- EXPLAIN CELL
abbrev pub explanation_bound : Catalog → Name → Name → List E → List E → Result Bound Refused
explanation_bound catalog view measure part cell =
    cell_bound catalog view measure part cell >>= (λ asked. Ok (bound.ExplainCell asked))

-- What a statement is bound to under a catalog, or its first offence. The name of SHOW is judged where the views are, and
-- a block where blocks are.
abbrev pub statement_bound : Catalog → Stmt → Result Bound Refused
statement_bound catalog (stmt.CreateTable name cols key) = table_bound catalog (folded name) cols key >>= (λ def. Ok (bound.CreateTable def))
statement_bound catalog (stmt.DropTable name) = if_table catalog (folded name) (bound.DropTable (folded name))
statement_bound catalog (stmt.CreateView name q) = view_bound catalog (folded name) q
statement_bound catalog (stmt.DropView name) = if_view catalog (folded name) (bound.DropView (folded name))
statement_bound catalog (stmt.Change tree) = change_bound catalog tree >>= (λ c. Ok (bound.Change c))
statement_bound catalog (stmt.Load name file) = if_table catalog (folded name) (bound.Load (folded name) file)
statement_bound catalog (stmt.Show name) = Ok (bound.Show (folded name))
statement_bound catalog (stmt.Query q) = query_bound catalog q >>= (λ b. Ok (bound.Query b))
statement_bound catalog stmt.Begin = Ok bound.Begin
statement_bound catalog stmt.Commit = Ok bound.Commit
statement_bound catalog stmt.Rollback = Ok bound.Rollback
statement_bound catalog (stmt.CreateScenario name) = scenario_created catalog (folded name)
statement_bound catalog (stmt.DropScenario name) = scenario_dropped catalog (folded name)
statement_bound catalog (stmt.Under scenario tree) = under_bound catalog (folded scenario) tree
statement_bound catalog (stmt.Compare view scenarios) = comparison_bound catalog (folded view) scenarios
statement_bound catalog (stmt.ExplainCell view measure part cell) =
    explanation_bound catalog (folded view) (folded measure) part cell
