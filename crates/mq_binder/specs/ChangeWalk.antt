-- INSERT, UPDATE and DELETE: changes of the rows of a table, whose name comes first.
use Rattle.std.specs.Prelude.{ℕ, List, [], ◌∷◌, length, map, Bool, not, ◌==◌, Option, Some, None, Result, Ok, slice_set, slice_index_or}
use Rattle.std.specs.List.{list_all, range_with_len, zip}
use Rattle.mq_lexer.specs.Words.{folded}
use Rattle.mq_values.specs.declared.faults.Refused.{Refused}
use Rattle.mq_values.specs.declared.value.Value.TheVariants as value
use Rattle.mq_ast.specs.declared.expressions.E.{E}
use Rattle.mq_ast.specs.declared.statements.ChangeTree.{ChangeTree}
use Rattle.mq_ast.specs.declared.statements.ChangeTree.TheVariants as tree
use Rattle.mq_ir.specs.declared.catalog.Catalog.{Catalog}
use Rattle.mq_ir.specs.declared.expression.Expr.{Expr}
use Rattle.mq_ir.specs.declared.expression.Expr.TheVariants as expr
use Rattle.mq_ir.specs.declared.statement.Change.{Change}
use Rattle.mq_ir.specs.declared.statement.Change.TheVariants as change
use Rattle.mq_ir.specs.declared.statement.Column.{Column}
use Rattle.mq_ir.specs.declared.statement.Schema.{Schema}
use Rattle.mq_ir.specs.Results.{◌>>=◌, each}
use Rattle.mq_bind_scopes.specs.declared.kinds.ExprKind.{ExprKind}
use Rattle.mq_bind_scopes.specs.declared.kinds.ExprKind.TheVariants as kind
use Rattle.mq_bind_scopes.specs.declared.scopes.Found.{Found}
use Rattle.mq_bind_scopes.specs.declared.scopes.Part.TheVariants as part
use Rattle.mq_bind_scopes.specs.declared.scopes.Scope.{Scope}
use Rattle.mq_bind_expr.specs.ExpressionWalk.{bound, bound_filter}
use Rattle.mq_binder.specs.FromWalk.{columns_of_item, row_scope, table_called}
use Rattle.mq_bind_scopes.specs.Kinds.{is_assignable, of_column}
use Rattle.mq_bind_scopes.specs.Names.{Name}
use Rattle.mq_bind_expr.specs.OperatorNodes.{exprs_of}
use Rattle.mq_bind_scopes.specs.Positions.{standing}
use Rattle.mq_bind_expr.specs.Steps.{each_behind}
use Rattle.mq_bind_scopes.specs.Refusals.{kind_mismatch, refused_where}
use Rattle.mq_binder.specs.TableWalk.{columns_named, new_column}

-- the kind of the column of a number
abbrev pub kind_at : Schema → ℕ → ExprKind
kind_at schema n = slice_index_or (map (λ (c : Column). of_column c.kind) schema.cols) n kind.Null

-- the columns that INSERT gives values for: those named, or all
abbrev pub inserted_columns : Schema → Option (List Name) → Result (List ℕ) Refused
inserted_columns schema None = Ok (range_with_len 0 (length schema.cols))
inserted_columns schema (Some names) = columns_named schema.cols names

-- in a row that is inserted no column is known
abbrev pub no_columns : Scope
no_columns = row_scope [] []

-- NULL for each column, and then the values, each at its column
abbrev pub placed_values : List (ℕ × Expr) → List Expr → List Expr
placed_values [] row = row
placed_values (v ∷ vs) row = placed_values vs (slice_set row v.0 v.1)

abbrev pub row_with : Schema → List ℕ → List Expr → List Expr
row_with schema numbers es = placed_values (zip numbers es) (map (λ (c : Column). expr.Lit value.Null) schema.cols)

abbrev pub goes_into : Schema → ℕ × Found → Bool
goes_into schema v = is_assignable (kind_at schema v.0) v.1.kind

-- a row: its width, its expressions, and then whether each value goes into its column
abbrev pub row_bound : Schema → List ℕ → List E → Result (List Expr) Refused
row_bound schema numbers es =
    refused_where (not (length es == length numbers)) kind_mismatch (
    each (λ (e : E). bound no_columns e (standing part.Row)) es >>= (λ fs.
    refused_where (not (list_all (goes_into schema) (zip numbers fs))) kind_mismatch (Ok (row_with schema numbers (exprs_of fs)))))

abbrev pub rows_bound : Schema → Option (List Name) → List (List E) → Result (List (List Expr)) Refused
rows_bound schema cols rows = inserted_columns schema cols >>= (λ numbers. each (row_bound schema numbers) rows)

-- a row of the table that is changed; its own name may stand before its columns
abbrev pub change_scope : Name → Schema → Scope
change_scope table schema = row_scope (table ∷ []) (columns_of_item 0 schema)

-- a column of SET behind these columns, and its value
abbrev pub set_value : Schema → Scope → ℕ → E → Result (ℕ × Expr) Refused
set_value schema scope n e =
    bound scope e (standing part.Row) >>= (λ f. refused_where (not (is_assignable (kind_at schema n) f.kind)) kind_mismatch (Ok (n, f.e)))

abbrev pub set_bound : Schema → Scope → List ℕ → Name × E → Result (ℕ × Expr) Refused
set_bound schema scope taken s = new_column schema.cols taken s.0 >>= (λ n. set_value schema scope n s.1)

abbrev pub sets_bound : Schema → Scope → List (Name × E) → Result (List (ℕ × Expr)) Refused
sets_bound schema scope = each_behind (set_bound schema scope) (λ (s : ℕ × Expr). s.0) []

-- INSERT behind its table
abbrev pub rows_inserted : Name → Schema → Option (List Name) → List (List E) → Result Change Refused
rows_inserted table schema cols rows = rows_bound schema cols rows >>= (λ es. Ok (change.Insert table es))

abbrev pub insert_bound : Catalog → Name → Option (List Name) → List (List E) → Result Change Refused
insert_bound catalog table cols rows = table_called catalog table >>= (λ schema. rows_inserted table schema cols rows)

-- UPDATE behind its table: SET, and then WHERE
abbrev pub updated_where : Name → List (ℕ × Expr) → Option E → Scope → Result Change Refused
updated_where table sets filter scope =
    bound_filter scope (standing part.Row) filter >>= (λ condition. Ok (change.Update table sets condition))

abbrev pub update_over : Name → Schema → List (Name × E) → Option E → Scope → Result Change Refused
update_over table schema sets filter scope = sets_bound schema scope sets >>= (λ es. updated_where table es filter scope)

abbrev pub update_bound : Catalog → Name → List (Name × E) → Option E → Result Change Refused
update_bound catalog table sets filter =
    table_called catalog table >>= (λ schema. update_over table schema sets filter (change_scope table schema))

-- DELETE behind its table
abbrev pub deleted_where : Name → Option E → Scope → Result Change Refused
deleted_where table filter scope =
    bound_filter scope (standing part.Row) filter >>= (λ condition. Ok (change.Delete table condition))

abbrev pub delete_bound : Catalog → Name → Option E → Result Change Refused
delete_bound catalog table filter = table_called catalog table >>= (λ schema. deleted_where table filter (change_scope table schema))

-- What a change is bound to under a catalog, or its first offence: by itself, and where a scenario takes it in.
abbrev pub change_bound : Catalog → ChangeTree → Result Change Refused
change_bound catalog (tree.Insert name cols rows) = insert_bound catalog (folded name) cols rows
change_bound catalog (tree.Update name sets filter) = update_bound catalog (folded name) sets filter
change_bound catalog (tree.Delete name filter) = delete_bound catalog (folded name) filter
