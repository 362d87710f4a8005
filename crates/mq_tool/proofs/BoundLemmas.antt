-- What a statement is bound to is what its needs are known of.
use Rattle.std.proofs.Common.{◌≡◌, ℕ, List, Bool, true, false, not, Result, Ok, Err, refl, subst}
use Rattle.std.specs.Prelude.{⊤, length, nat_le}
use Rattle.mq_lexer.specs.Words.{folded}
use Rattle.mq_values.specs.declared.faults.Refused.{Refused}
use Rattle.mq_values.specs.declared.limits.TheConstants.{MAX_SCENARIO_CHANGES, MAX_SCENARIOS, MAX_VIEWS}
use Rattle.mq_ast.specs.declared.queries.Query.{Query}
use Rattle.mq_ast.specs.declared.statements.ChangeTree.{ChangeTree}
use Rattle.mq_ast.specs.declared.statements.Stmt.{Stmt}
use Rattle.mq_ast.specs.declared.statements.Stmt.TheVariants as stmt
use Rattle.mq_ir.specs.declared.catalog.Catalog.{Catalog}
use Rattle.mq_ir.specs.declared.limit_numbers.TheConstants.{LIMIT_OF_SCENARIO_CHANGES, LIMIT_OF_SCENARIOS, LIMIT_OF_VIEWS}
use Rattle.mq_ir.specs.declared.statement.Bound.{Bound}
use Rattle.mq_ir.specs.declared.statement.Bound.TheVariants as bound
use Rattle.mq_ir.specs.Names.{change_count, is_scenario, is_table, is_taken, is_view}
use Rattle.mq_ir.specs.Results.{◌>>=◌}
use Rattle.mq_bind_scopes.specs.Refusals.{duplicate_name, limit, refused_where, unknown_name}
use Rattle.mq_binder.specs.CellWalk.{cell_bound}
use Rattle.mq_binder.specs.ChangeWalk.{change_bound}
use Rattle.mq_binder.specs.QueryWalk.{query_bound}
use Rattle.mq_binder.specs.ScenarioWalk.{scenarios_named, taken_in}
use Rattle.mq_binder.specs.StatementWalk.{statement_bound}
use Rattle.mq_binder.specs.TableWalk.{table_bound}

-- A scenario that may be created is new, and one that may take a change in has room for it.
abbrev pub IsKnown : Catalog → Bound → Type 0
IsKnown catalog (bound.CreateScenario name) = is_taken catalog name ≡ false
IsKnown catalog (bound.Under name change) = nat_le MAX_SCENARIO_CHANGES (change_count catalog name) ≡ false
IsKnown catalog _ = ⊤

abbrev bound_to : Bound → Result Bound Refused
bound_to b = Ok b

module _ (catalog : Catalog) where
  one_known : (a b : Bound) → IsKnown catalog a → bound_to a ≡ bound_to b → IsKnown catalog b
  one_known a b h e = let q : a ≡ b = cc in subst (IsKnown catalog) q h

  then_known : {A : Type 0} (r : Result A Refused) (f : A → Result Bound Refused) (b : Bound) → ((x : A) → f x ≡ Ok b → IsKnown catalog b) → (r >>= f) ≡ Ok b
      → IsKnown catalog b
  then_known (Ok x) f b h e = h x e
  then_known (Err r) f b h e = absurd cc

  where_known : (refuses : Bool) (refusal : Refused) (next : Result Bound Refused) (b : Bound) → (refuses ≡ false → next ≡ Ok b → IsKnown catalog b)
      → refused_where refuses refusal next ≡ Ok b → IsKnown catalog b
  where_known true refusal next b h e = absurd cc
  where_known false refusal next b h e = h refl e

  -- what each gives is known, with no more asked
  made_known : {A : Type 0} (r : Result A Refused) (f : A → Bound) (b : Bound) → ((x : A) → IsKnown catalog (f x)) → (r >>= (λ x. Ok (f x))) ≡ Ok b
      → IsKnown catalog b
  made_known r f b h = then_known r (λ x. Ok (f x)) b (λ x. one_known (f x) b (h x))

  named_known : (is_there : Bool) (name : List ℕ) (a b : Bound) → IsKnown catalog a → refused_where (not is_there) (unknown_name name) (Ok a) ≡ Ok b
      → IsKnown catalog b
  named_known is_there name a b h = where_known (not is_there) (unknown_name name) (Ok a) b (λ t. one_known a b h)

  view_known : (name : List ℕ) (q : Query) (b : Bound) → statement_bound catalog (stmt.CreateView name q) ≡ Ok b → IsKnown catalog b
  view_known name q b =
      where_known (is_taken catalog (folded name)) (duplicate_name (folded name)) _ b
      (λ new. where_known (nat_le MAX_VIEWS (length catalog.views)) (limit LIMIT_OF_VIEWS) _ b
      (λ few. made_known (query_bound catalog q) (bound.CreateView (folded name)) b (λ x. tt)))

  created_known : (name : List ℕ) (b : Bound) → statement_bound catalog (stmt.CreateScenario name) ≡ Ok b → IsKnown catalog b
  created_known name b =
      where_known (is_taken catalog (folded name)) (duplicate_name (folded name)) _ b
      (λ new. where_known (nat_le MAX_SCENARIOS (length catalog.scenarios)) (limit LIMIT_OF_SCENARIOS) _ b
      (λ few. one_known (bound.CreateScenario (folded name)) b new))

  under_known : (scenario : List ℕ) (tree : ChangeTree) (b : Bound) → statement_bound catalog (stmt.Under scenario tree) ≡ Ok b → IsKnown catalog b
  under_known scenario tree b =
      where_known (not (is_scenario catalog (folded scenario))) (unknown_name (folded scenario)) _ b
      (λ there. then_known (change_bound catalog tree) (taken_in catalog (folded scenario)) b
      (λ c. where_known (nat_le MAX_SCENARIO_CHANGES (change_count catalog (folded scenario))) (limit LIMIT_OF_SCENARIO_CHANGES) _ b
      (λ room. one_known (bound.Under (folded scenario) c) b room)))

  compared_known : (view : List ℕ) (names : List (List ℕ)) (b : Bound) → statement_bound catalog (stmt.Compare view names) ≡ Ok b → IsKnown catalog b
  compared_known view names b =
      where_known (not (is_view catalog (folded view))) (unknown_name (folded view)) _ b
      (λ there. made_known (scenarios_named catalog names) (bound.Compare (folded view)) b (λ x. tt))

  pub bound_is_known : (s : Stmt) (b : Bound) → statement_bound catalog s ≡ Ok b → IsKnown catalog b
  bound_is_known (stmt.CreateTable name cols key) b = made_known (table_bound catalog (folded name) cols key) bound.CreateTable b (λ x. tt)
  bound_is_known (stmt.DropTable name) b = named_known (is_table catalog (folded name)) (folded name) (bound.DropTable (folded name)) b tt
  bound_is_known (stmt.CreateView name q) b = view_known name q b
  bound_is_known (stmt.DropView name) b = named_known (is_view catalog (folded name)) (folded name) (bound.DropView (folded name)) b tt
  bound_is_known (stmt.Change tree) b = made_known (change_bound catalog tree) bound.Change b (λ x. tt)
  bound_is_known (stmt.Load name file) b = named_known (is_table catalog (folded name)) (folded name) (bound.Load (folded name) file) b tt
  bound_is_known (stmt.Show name) b = one_known (bound.Show (folded name)) b tt
  bound_is_known (stmt.Query q) b = made_known (query_bound catalog q) bound.Query b (λ x. tt)
  bound_is_known stmt.Begin b = one_known bound.Begin b tt
  bound_is_known stmt.Commit b = one_known bound.Commit b tt
  bound_is_known stmt.Rollback b = one_known bound.Rollback b tt
  bound_is_known (stmt.CreateScenario name) b = created_known name b
  bound_is_known (stmt.DropScenario name) b = named_known (is_scenario catalog (folded name)) (folded name) (bound.DropScenario (folded name)) b tt
  bound_is_known (stmt.Under scenario tree) b = under_known scenario tree b
  bound_is_known (stmt.Compare view scenarios) b = compared_known view scenarios b
  bound_is_known (stmt.ExplainCell view measure part cell) b =
      made_known (cell_bound catalog (folded view) (folded measure) part cell) bound.ExplainCell b (λ x. tt)
