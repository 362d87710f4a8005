-- What holds of names and of the answers of binding.
use Rattle.std.specs.Prelude.{◌≡◌, ◌≢◌, List, [], ◌∷◌, map, Some, Result, Ok, Err}
use Rattle.std.specs.Option.{option_map}
use Rattle.mq_lexer.specs.Words.{folded}
use Rattle.mq_values.specs.Answers.{Gives}
use Rattle.mq_values.specs.declared.faults.Refused.{Refused}
use Rattle.mq_values.specs.declared.memory.Fail.{Fail}
use Rattle.mq_values.specs.declared.memory.Fail.TheVariants as fail
use Rattle.mq_ast.specs.declared.expressions.E.{E}
use Rattle.mq_ast.specs.declared.expressions.Path.{Path}
use Rattle.mq_ast.specs.declared.queries.FromItem.{FromItem}
use Rattle.mq_ast.specs.declared.queries.Sel.{Sel}
use Rattle.mq_ast.specs.declared.statements.ChangeTree.{ChangeTree}
use Rattle.mq_ast.specs.declared.statements.ChangeTree.TheVariants as tree
use Rattle.mq_ast.specs.declared.statements.Stmt.{Stmt}
use Rattle.mq_ast.specs.declared.statements.Stmt.TheVariants as stmt
use Rattle.mq_ir.specs.declared.catalog.Catalog.{Catalog}
use Rattle.mq_ir.specs.declared.statement.Bound.{Bound}
use Rattle.mq_ir.specs.declared.statement.Column.{Column}
use Rattle.mq_bind_scopes.specs.declared.scopes.Found.{Found}
use Rattle.mq_bind_scopes.specs.declared.scopes.Named.{Named}
use Rattle.mq_bind_scopes.specs.declared.scopes.Position.{Position}
use Rattle.mq_bind_scopes.specs.declared.scopes.RowColumn.{RowColumn}
use Rattle.mq_bind_scopes.specs.declared.scopes.Scope.{Scope}
use Rattle.mq_bind_expr.specs.ExpressionWalk.{bound, kind_of}
use Rattle.mq_bind_expr.specs.Forms.{name_of, plain_path}
use Rattle.mq_binder.specs.ChangeWalk.{change_bound}
use Rattle.mq_binder.specs.FromWalk.{alias_of, row_scope}
use Rattle.mq_bind_scopes.specs.Names.{Name, called, column_named}
use Rattle.mq_bind_scopes.specs.Refusals.{unknown_name}
use Rattle.mq_binder.specs.ScenarioWalk.{scenarios_named}
use Rattle.mq_binder.specs.StatementWalk.{statement_bound}
use Rattle.mq_binder.specs.TableWalk.{columns_named}

-- paths that differ in the case of their letters alone
pub record SamePath (a b : Path) : Type 0 where
  pub first : option_map folded a.first ≡ option_map folded b.first
  pub last : folded a.last ≡ folded b.last

-- They mean the same column, or have the same offence.
abbrev pub PathsByCapitals : Scope → Position → Path → Path → Type 0
PathsByCapitals scope at a b = SamePath a b → column_named scope at a ≡ column_named scope at b

-- And so do two lists of columns.
abbrev pub ColumnsByCapitals : List Column → List Name → List Name → Type 0
ColumnsByCapitals columns names others = map folded names ≡ map folded others → columns_named columns names ≡ columns_named columns others

-- a change with another name of its table
abbrev pub change_renamed : Name → ChangeTree → ChangeTree
change_renamed name (tree.Insert old cols rows) = tree.Insert name cols rows
change_renamed name (tree.Update old sets filter) = tree.Update name sets filter
change_renamed name (tree.Delete old filter) = tree.Delete name filter

-- a statement with another name of what it makes, drops, changes, shows or explains: its table, view or scenario
abbrev pub renamed : Name → Stmt → Stmt
renamed name (stmt.CreateTable old cols key) = stmt.CreateTable name cols key
renamed name (stmt.DropTable old) = stmt.DropTable name
renamed name (stmt.CreateView old q) = stmt.CreateView name q
renamed name (stmt.DropView old) = stmt.DropView name
renamed name (stmt.Change c) = stmt.Change (change_renamed name c)
renamed name (stmt.Load old file) = stmt.Load name file
renamed name (stmt.Show old) = stmt.Show name
renamed name (stmt.Query q) = stmt.Query q
renamed name stmt.Begin = stmt.Begin
renamed name stmt.Commit = stmt.Commit
renamed name stmt.Rollback = stmt.Rollback
renamed name (stmt.CreateScenario old) = stmt.CreateScenario name
renamed name (stmt.DropScenario old) = stmt.DropScenario name
renamed name (stmt.Under old c) = stmt.Under name c
renamed name (stmt.Compare old scenarios) = stmt.Compare name scenarios
renamed name (stmt.ExplainCell old measure part cell) = stmt.ExplainCell name measure part cell

-- The name of a table, a view or a scenario is compared in capital letters.
abbrev pub TablesByCapitals : Catalog → Stmt → Name → Name → Type 0
TablesByCapitals catalog s a b = folded a ≡ folded b → statement_bound catalog (renamed a s) ≡ statement_bound catalog (renamed b s)

-- So are the table of a change that a scenario takes in, the scenarios of a comparison, and the measure of an explained cell.
abbrev pub ChangesByCapitals : Catalog → ChangeTree → Name → Name → Type 0
ChangesByCapitals catalog c a b = folded a ≡ folded b → change_bound catalog (change_renamed a c) ≡ change_bound catalog (change_renamed b c)

abbrev pub ScenariosByCapitals : Catalog → List Name → List Name → Type 0
ScenariosByCapitals catalog names others =
    map folded names ≡ map folded others → scenarios_named catalog names ≡ scenarios_named catalog others

abbrev pub MeasuresByCapitals : Catalog → Name → List E → List E → Name → Name → Type 0
MeasuresByCapitals catalog view part cell a b =
    folded a ≡ folded b
    → statement_bound catalog (stmt.ExplainCell view a part cell) ≡ statement_bound catalog (stmt.ExplainCell view b part cell)

-- Over a FROM item with an alias the table's own name is unknown, where it is another one.
abbrev pub AliasHidesTable : FromItem → Name → List RowColumn → Position → Name → Type 0
AliasHidesTable item alias columns at last =
    item.alias ≡ Some alias → folded alias ≢ folded item.table
    → column_named (row_scope (alias_of item ∷ []) columns) at (record { first = Some item.table; last = last })
    ≡ Err (unknown_name (folded item.table))

-- An item of a list that is a plain column with an alias is known by the alias, and by the column's own name only where
-- that is the same.
abbrev pub AliasHidesColumn : Sel → Path → Name → Named → Type 0
AliasHidesColumn sel path alias column =
    plain_path sel.e ≡ Some path → sel.alias ≡ Some alias → folded alias ≢ folded path.last → name_of sel ≡ Some column.name
    → called (folded path.last) (column ∷ []) ≡ Err (unknown_name (folded path.last))

-- What an expression is bound to has the kind of its tree.
abbrev pub KindOfTree : Scope → Position → E → Found → Type 0
KindOfTree scope at e f = bound scope e at ≡ Ok f → kind_of scope at e ≡ Ok f.kind

-- Two answers for one statement are equal, unless one of them is want of memory.
abbrev pub OneAnswer : Catalog → Stmt → Type 0
OneAnswer catalog s =
    (a b : Result Bound (Fail Refused)) → a ≢ Err fail.Memory → b ≢ Err fail.Memory
    → Gives a (statement_bound catalog s) → Gives b (statement_bound catalog s) → a ≡ b
