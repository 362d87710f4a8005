-- What is bound is ready to run.
use Rattle.std.specs.Prelude.{◌≡◌, false, Ok}
use Rattle.mq_ast.specs.declared.statements.Stmt.{Stmt}
use Rattle.mq_ir.specs.declared.catalog.Catalog.{Catalog}
use Rattle.mq_ir.specs.declared.query.BoundQuery.{BoundQuery}
use Rattle.mq_ir.specs.declared.statement.Bound.TheVariants as bound
use Rattle.mq_ir.specs.declared.statement.TableDef.{TableDef}
use Rattle.mq_ir.specs.Names.{is_taken}
use Rattle.mq_ir.specs.Ready.{QueryIsReady}
use Rattle.mq_bind_scopes.specs.Names.{Name}
use Rattle.mq_binder.specs.StatementWalk.{statement_bound}

-- A table that may be created has a name that is new to the catalog.
abbrev pub CreatedTableIsNew : Catalog → Stmt → TableDef → Type 0
CreatedTableIsNew catalog s def = statement_bound catalog s ≡ Ok (bound.CreateTable def) → is_taken catalog def.name ≡ false

-- So has a view.
abbrev pub CreatedViewIsNew : Catalog → Stmt → Name → BoundQuery → Type 0
CreatedViewIsNew catalog s name q = statement_bound catalog s ≡ Ok (bound.CreateView name q) → is_taken catalog name ≡ false

-- The rules of each query that is bound by itself may run, and of each that a view stands for.
abbrev pub BoundQueryIsReady : Catalog → Stmt → BoundQuery → Type 0
BoundQueryIsReady catalog s q = statement_bound catalog s ≡ Ok (bound.Query q) → QueryIsReady q

abbrev pub BoundViewIsReady : Catalog → Stmt → Name → BoundQuery → Type 0
BoundViewIsReady catalog s name q = statement_bound catalog s ≡ Ok (bound.CreateView name q) → QueryIsReady q
