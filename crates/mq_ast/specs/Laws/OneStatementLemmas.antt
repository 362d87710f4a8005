-- Two statements that read the same tokens are equal.
use Rattle.std.proofs.Common.{◌≡◌, List, ◌∷◌, refl, sym, ap, arith}
use Rattle.std.specs.Prelude.{ℕ, Bool}
use Rattle.mq_ast.specs.declared.expressions.E.{E}
use Rattle.mq_ast.specs.declared.statements.ChangeTree.{ChangeTree}
use Rattle.mq_ast.specs.declared.statements.ColDef.{ColDef}
use Rattle.mq_ast.specs.declared.statements.Stmt.{Stmt}
use Rattle.mq_ast.specs.declared.statements.Stmt.TheVariants as stmt
use Rattle.mq_ast.specs.Tokens.{Tok, closer, comma, open_square}
use Rattle.mq_ast.specs.declared.levels.TheConstants as level
use Rattle.mq_ast.specs.Continuing.{Stops, EndsCols}
use Rattle.mq_ast.specs.OneTree.{OneTree}
use Rattle.mq_ast.specs.GrammarLists.{SomeOf}
use Rattle.mq_ast.specs.GrammarExpression.{Exprs}
use Rattle.mq_ast.specs.GrammarChange.{ChangeE, change_insert, change_update, change_delete}
use Rattle.mq_ast.specs.GrammarStatement.{NotNullE, null_may, null_not, ColE, col, PrimaryE, primary_none, primary_some, MaybePart, part_none, part_some, StmtE, stmt_create_table, stmt_drop_table, stmt_create_view, stmt_drop_view, stmt_change, stmt_load, stmt_show, stmt_query}
use Rattle.mq_ast.specs.GrammarStatement.{stmt_begin, stmt_commit, stmt_rollback, stmt_create_scenario, stmt_drop_scenario, stmt_under, stmt_compare, stmt_explain}
use Rattle.mq_ast.specs.Laws.CommonLemmas.{Same, begin, cut}
use Rattle.mq_ast.specs.Laws.OneExpressionLemmas.{kind_same, tuple_same, exprs_same}
use Rattle.mq_ast.specs.Laws.OneListLemmas.{some_same, names_same}
use Rattle.mq_ast.specs.Laws.OneModelLemmas.{query_same}
use Rattle.mq_ast.specs.Laws.OneChangeLemmas.{names_of_same, change_same}

pub null_same : {b b' : Bool} {from to to' : List Tok} → NotNullE b from to → NotNullE b' from to' → Stops level.EXPRESSION to → Stops level.EXPRESSION to' → Same b b' to to'
null_same null_may null_may s s' = (refl, refl)
null_same null_may null_not s s' = absurd (omega arith)
null_same null_not null_may s s' = absurd (omega arith)
null_same null_not null_not s s' = (refl, refl)

pub col_same : OneTree ColE (Stops level.EXPRESSION)
col_same _ _ _ _ _ (col k n) (col k' n') s s' =
    let p = kind_same k k' in
    let q = null_same n (begin NotNullE p.1 n') s s' in
    (cc, q.1)

pub col_no_primary : (c : ColDef) (from to : List Tok) → EndsCols (comma ∷ from) → ColE c from to → ⊥
col_no_primary _ _ _ s (col k n) = let e = s.1 refl in cc

pub cols_of_same : {cs cs' : List ColDef} {from to to' : List Tok} → SomeOf ColE cs from to → SomeOf ColE cs' from to' → EndsCols to → EndsCols to' → Same cs cs' to to'
cols_of_same = some_same ColDef ColE (Stops level.EXPRESSION) EndsCols col_same (λ ts s. s.0) (λ ts. omega arith) col_no_primary

pub primary_ends : {ns : List (List ℕ)} {from to : List Tok} → PrimaryE ns from (closer ∷ to) → EndsCols from
primary_ends primary_none = (omega arith, λ e. absurd cc)
primary_ends (primary_some d) = (omega arith, λ e. refl)

pub primary_same : {ns ns' : List (List ℕ)} {from to to' : List Tok} → PrimaryE ns from (closer ∷ to) → PrimaryE ns' from (closer ∷ to') → Same ns ns' to to'
primary_same primary_none primary_none = (refl, refl)
primary_same (primary_some d) (primary_some d') = let p = names_of_same d d' in (p.0, cut p.1)

pub maybe_part_same : {ps ps' : List E} {from to to' : List Tok} → MaybePart ps from (open_square ∷ to) → MaybePart ps' from (open_square ∷ to') → Same ps ps' to to'
maybe_part_same part_none part_none = (refl, refl)
maybe_part_same (part_some d) (part_some d') = let p = tuple_same d d' in (p.0, cut p.1)

-- what begins as a change is one
change_alone : {c : ChangeTree} {a : Stmt} {tokens : List Tok} → ChangeE c tokens → StmtE a tokens → stmt.Change c ≡ a
change_alone (change_insert n d) (stmt_change d') = ap stmt.Change (change_same _ _ _ (change_insert n d) d')
change_alone (change_update d w) (stmt_change d') = ap stmt.Change (change_same _ _ _ (change_update d w) d')
change_alone (change_delete w) (stmt_change d') = ap stmt.Change (change_same _ _ _ (change_delete w) d')

pub stmt_same : (a b : Stmt) (tokens : List Tok) → StmtE a tokens → StmtE b tokens → a ≡ b
stmt_same _ _ _ (stmt_change d) d' = change_alone d d'
stmt_same _ _ _ d (stmt_change d') = sym (change_alone d' d)
stmt_same _ _ _ (stmt_create_table c k) (stmt_create_table c' k') =
    let p = cols_of_same c c' (primary_ends k) (primary_ends k') in
    let q = primary_same k (begin PrimaryE p.1 k') in
    cc
stmt_same _ _ _ stmt_drop_table stmt_drop_table = refl
stmt_same _ _ _ (stmt_create_view d) (stmt_create_view d') = let p = query_same d d' (omega arith) (omega arith) in cc
stmt_same _ _ _ stmt_drop_view stmt_drop_view = refl
stmt_same _ _ _ stmt_load stmt_load = refl
stmt_same _ _ _ stmt_show stmt_show = refl
stmt_same _ _ _ (stmt_query d) (stmt_query d') = let p = query_same d d' (omega arith) (omega arith) in cc
stmt_same _ _ _ stmt_begin stmt_begin = refl
stmt_same _ _ _ stmt_commit stmt_commit = refl
stmt_same _ _ _ stmt_rollback stmt_rollback = refl
stmt_same _ _ _ stmt_create_scenario stmt_create_scenario = refl
stmt_same _ _ _ stmt_drop_scenario stmt_drop_scenario = refl
stmt_same _ _ _ (stmt_under d) (stmt_under d') = let p = change_same _ _ _ d d' in cc
stmt_same _ _ _ (stmt_compare d) (stmt_compare d') = let p = names_same d d' (λ e. cc) (λ e. cc) in cc
stmt_same _ _ _ (stmt_explain p d) (stmt_explain p' d') =
    let q = maybe_part_same p p' in
    let r = exprs_same d (begin Exprs q.1 d') (omega arith, λ e. cc) (omega arith, λ e. cc) in
    cc
