-- Where a bound statement came from: which statements drop a table, and what a new view and a new table were made of.
use Rattle.std.proofs.Common.{◌≡◌, List, length, Bool, true, false, Result, Ok, Err, refl, subst}
use Rattle.std.specs.Prelude.{nat_le}
use Rattle.mq_lexer.specs.Words.{folded}
use Rattle.mq_values.specs.declared.faults.Refused.{Refused}
use Rattle.mq_values.specs.declared.limits.TheConstants.{MAX_SCENARIOS, MAX_VIEWS}
use Rattle.mq_ast.specs.declared.queries.Query.{Query}
use Rattle.mq_ast.specs.declared.statements.ColDef.{ColDef}
use Rattle.mq_ast.specs.declared.statements.Stmt.{Stmt}
use Rattle.mq_ast.specs.declared.statements.Stmt.TheVariants as stmt
use Rattle.mq_ir.specs.declared.catalog.Catalog.{Catalog}
use Rattle.mq_ir.specs.declared.limit_numbers.TheConstants.{LIMIT_OF_SCENARIOS, LIMIT_OF_VIEWS}
use Rattle.mq_ir.specs.declared.statement.Bound.{Bound}
use Rattle.mq_ir.specs.declared.statement.Bound.TheVariants as bound
use Rattle.mq_ir.specs.Names.{is_taken}
use Rattle.mq_ir.specs.Results.{◌>>=◌}
use Rattle.mq_bind_scopes.specs.Names.{Name}
use Rattle.mq_bind_scopes.specs.Refusals.{duplicate_name, limit, refused_where}
use Rattle.mq_binder.specs.CellWalk.{cell_bound}
use Rattle.mq_binder.specs.ChangeWalk.{change_bound}
use Rattle.mq_binder.specs.QueryWalk.{query_bound}
use Rattle.mq_binder.specs.ScenarioWalk.{scenarios_named}
use Rattle.mq_binder.specs.StatementWalk.{statement_bound}
use Rattle.mq_binder.specs.TableWalk.{table_bound}
use Rattle.mq_tool.specs.Script.{Tree}
use Rattle.mq_bind_laws.specs.StatementsBetween.{drops_table}

abbrev pub drops : Bound → Bool
drops (bound.DropTable name) = true
drops _ = false

-- a query that a new view was bound from, and the parts of a new table
abbrev pub OfView : Catalog → Bound → Type 0
OfView catalog (bound.CreateView name b) = (q : Query) × (query_bound catalog q ≡ Ok b)
OfView catalog _ = Unit {0}

abbrev pub OfTable : Catalog → Bound → Type 0
OfTable catalog (bound.CreateTable def) = (name : Name) × (cols : List ColDef) × (key : List Name) × (table_bound catalog name cols key ≡ Ok def)
OfTable catalog _ = Unit {0}

pub record Came (catalog : Catalog) (s : Stmt) (b : Bound) : Type 0 where
  pub drop : drops b ≡ drops_table (Tree s)
  pub view : OfView catalog b
  pub table : OfTable catalog b

ok_is : {A : Type 0} (x y : A) → ◌≡◌ {A = Result A Refused} (Ok x) (Ok y) → x ≡ y
ok_is x y h = cc

module _ (catalog : Catalog) (s : Stmt) where
  abbrev AllCame : Result Bound Refused → Type 0
  AllCame r = (b : Bound) → r ≡ Ok b → Came catalog s b

  came_ok : (made : Bound) → Came catalog s made → AllCame (Ok made)
  came_ok made c b h = subst (Came catalog s) (ok_is made b h) c

  came_then : {A : Type 0} (r : Result A Refused) (f : A → Result Bound Refused) → ((x : A) → r ≡ Ok x → AllCame (f x)) → AllCame (r >>= f)
  came_then (Ok x) f each b h = each x refl b h
  came_then (Err e) f each b h = absurd cc

  came_behind : (test : Bool) (refusal : Refused) (r : Result Bound Refused) → AllCame r → AllCame (refused_where test refusal r)
  came_behind true refusal r all b h = absurd cc
  came_behind false refusal r all b h = all b h

pub came : (catalog : Catalog) (s : Stmt) (b : Bound) → statement_bound catalog s ≡ Ok b → Came catalog s b
came catalog (stmt.CreateTable n cols key) =
    came_then catalog (stmt.CreateTable n cols key) (table_bound catalog (folded n) cols key) _
    (λ def e. came_ok catalog (stmt.CreateTable n cols key) (bound.CreateTable def) (record { drop = refl; view = tt; table = (folded n, cols, key, e) }))
came catalog (stmt.DropTable n) = came_behind catalog (stmt.DropTable n) _ _ _ (came_ok catalog (stmt.DropTable n) (bound.DropTable (folded n)) (record { drop = refl; view = tt; table = tt }))
came catalog (stmt.CreateView n q) =
    let made : Result Bound Refused = query_bound catalog q >>= (λ x. Ok (bound.CreateView (folded n) x)) in
    let full = nat_le MAX_VIEWS (length catalog.views) in
    came_behind catalog (stmt.CreateView n q) (is_taken catalog (folded n)) (duplicate_name (folded n)) (refused_where full (limit LIMIT_OF_VIEWS) made)
    (came_behind catalog (stmt.CreateView n q) full (limit LIMIT_OF_VIEWS) made
    (came_then catalog (stmt.CreateView n q) (query_bound catalog q) (λ x. Ok (bound.CreateView (folded n) x))
    (λ x e. came_ok catalog (stmt.CreateView n q) (bound.CreateView (folded n) x) (record { drop = refl; view = (q, e); table = tt }))))
came catalog (stmt.DropView n) = came_behind catalog (stmt.DropView n) _ _ _ (came_ok catalog (stmt.DropView n) (bound.DropView (folded n)) (record { drop = refl; view = tt; table = tt }))
came catalog (stmt.Change c) =
    came_then catalog (stmt.Change c) (change_bound catalog c) _ (λ x e. came_ok catalog (stmt.Change c) (bound.Change x) (record { drop = refl; view = tt; table = tt }))
came catalog (stmt.Load n file) = came_behind catalog (stmt.Load n file) _ _ _ (came_ok catalog (stmt.Load n file) (bound.Load (folded n) file) (record { drop = refl; view = tt; table = tt }))
came catalog (stmt.Show n) = came_ok catalog (stmt.Show n) (bound.Show (folded n)) (record { drop = refl; view = tt; table = tt })
came catalog (stmt.Query q) =
    came_then catalog (stmt.Query q) (query_bound catalog q) _ (λ x e. came_ok catalog (stmt.Query q) (bound.Query x) (record { drop = refl; view = tt; table = tt }))
came catalog stmt.Begin = came_ok catalog stmt.Begin bound.Begin (record { drop = refl; view = tt; table = tt })
came catalog stmt.Commit = came_ok catalog stmt.Commit bound.Commit (record { drop = refl; view = tt; table = tt })
came catalog stmt.Rollback = came_ok catalog stmt.Rollback bound.Rollback (record { drop = refl; view = tt; table = tt })
came catalog (stmt.CreateScenario n) =
    let made : Result Bound Refused = Ok (bound.CreateScenario (folded n)) in
    let full = nat_le MAX_SCENARIOS (length catalog.scenarios) in
    came_behind catalog (stmt.CreateScenario n) (is_taken catalog (folded n)) (duplicate_name (folded n)) (refused_where full (limit LIMIT_OF_SCENARIOS) made)
    (came_behind catalog (stmt.CreateScenario n) full (limit LIMIT_OF_SCENARIOS) made
    (came_ok catalog (stmt.CreateScenario n) (bound.CreateScenario (folded n)) (record { drop = refl; view = tt; table = tt })))
came catalog (stmt.DropScenario n) =
    came_behind catalog (stmt.DropScenario n) _ _ _ (came_ok catalog (stmt.DropScenario n) (bound.DropScenario (folded n)) (record { drop = refl; view = tt; table = tt }))
came catalog (stmt.Under n c) =
    came_behind catalog (stmt.Under n c) _ _ _ (came_then catalog (stmt.Under n c) (change_bound catalog c) _
    (λ x e. came_behind catalog (stmt.Under n c) _ _ _ (came_ok catalog (stmt.Under n c) (bound.Under (folded n) x) (record { drop = refl; view = tt; table = tt }))))
came catalog (stmt.Compare n names) =
    came_behind catalog (stmt.Compare n names) _ _ _ (came_then catalog (stmt.Compare n names) (scenarios_named catalog names) _
    (λ x e. came_ok catalog (stmt.Compare n names) (bound.Compare (folded n) x) (record { drop = refl; view = tt; table = tt })))
came catalog (stmt.ExplainCell n m part cell) =
    came_then catalog (stmt.ExplainCell n m part cell) (cell_bound catalog (folded n) (folded m) part cell) _
    (λ x e. came_ok catalog (stmt.ExplainCell n m part cell) (bound.ExplainCell x) (record { drop = refl; view = tt; table = tt }))
