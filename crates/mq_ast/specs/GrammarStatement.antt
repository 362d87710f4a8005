-- The grammar of statements. StmtE s tokens: s reads all the tokens.
use Rattle.std.specs.Prelude.{ℕ, Bool, true, false, List, [], ◌∷◌}
use Rattle.mq_values.specs.declared.value.Kind.{Kind}
use Rattle.mq_ast.specs.declared.expressions.E.{E}
use Rattle.mq_ast.specs.declared.queries.Query.{Query}
use Rattle.mq_ast.specs.declared.statements.ChangeTree.{ChangeTree}
use Rattle.mq_ast.specs.declared.statements.ColDef.{ColDef}
use Rattle.mq_ast.specs.declared.statements.Stmt.{Stmt}
use Rattle.mq_ast.specs.declared.statements.Stmt.TheVariants as stmt
use Rattle.mq_lexer.specs.declared.keywords.Keyword.TheVariants as word
use Rattle.mq_ast.specs.Tokens.{Tok, Word, Name, Text, opener, closer, open_square, close_square, comma, point}
use Rattle.mq_ast.specs.GrammarNames.{KindE}
use Rattle.mq_ast.specs.GrammarLists.{SomeOf, NameE}
use Rattle.mq_ast.specs.GrammarExpression.{Exprs, Tuple}
use Rattle.mq_ast.specs.GrammarModel.{QueryE}
use Rattle.mq_ast.specs.GrammarChange.{ChangeE, NamesE}

abbrev pub col_of : List ℕ → Kind → Bool → ColDef
col_of n k not_null = record { name = n; kind = k; not_null = not_null }

-- [NOT NULL]
pub data NotNullE : Bool → List Tok → List Tok → Type 0 where
  null_may : {to : List Tok} → NotNullE false to to
  null_not : {to : List Tok} → NotNullE true (Word word.Not ∷ Word word.Null ∷ to) to

-- col := name kind [NOT NULL]
pub data ColE : ColDef → List Tok → List Tok → Type 0 where
  col : {n : List ℕ} {k : Kind} {b : Bool} {from mid to : List Tok} →
      KindE k from mid → NotNullE b mid to → ColE (col_of n k b) (Name n ∷ from) to

-- [',' PRIMARY KEY '(' names ')']
pub data PrimaryE : List (List ℕ) → List Tok → List Tok → Type 0 where
  primary_none : {to : List Tok} → PrimaryE [] to to
  primary_some : {ns : List (List ℕ)} {from to : List Tok} →
      NamesE ns from to → PrimaryE ns (comma ∷ Word word.Primary ∷ Word word.Key ∷ from) to

-- [PARTITION tuple]
pub data MaybePart : List E → List Tok → List Tok → Type 0 where
  part_none : {to : List Tok} → MaybePart [] to to
  part_some : {xs : List E} {from to : List Tok} → Tuple xs from to → MaybePart xs (Word word.Partition ∷ from) to

-- stmt := what is below
pub data StmtE : Stmt → List Tok → Type 0 where
  -- CREATE TABLE name '(' col {',' col} [',' PRIMARY KEY '(' names ')'] ')'
  stmt_create_table : {n : List ℕ} {cs : List ColDef} {ks : List (List ℕ)} {from mid : List Tok} → SomeOf ColE cs from mid →
      PrimaryE ks mid (closer ∷ []) → StmtE (stmt.CreateTable n cs ks) (Word word.Create ∷ Word word.Table ∷ Name n ∷ opener ∷ from)
  -- DROP TABLE name | CREATE VIEW name AS query | DROP VIEW name
  stmt_drop_table : {n : List ℕ} → StmtE (stmt.DropTable n) (Word word.Drop ∷ Word word.Table ∷ Name n ∷ [])
  stmt_create_view : {n : List ℕ} {q : Query} {from : List Tok} →
      QueryE q from [] → StmtE (stmt.CreateView n q) (Word word.Create ∷ Word word.View ∷ Name n ∷ Word word.As ∷ from)
  stmt_drop_view : {n : List ℕ} → StmtE (stmt.DropView n) (Word word.Drop ∷ Word word.View ∷ Name n ∷ [])
  -- change
  stmt_change : {c : ChangeTree} {from : List Tok} → ChangeE c from → StmtE (stmt.Change c) from
  -- LOAD INTO name FROM txt | SHOW name
  stmt_load : {n file : List ℕ} → StmtE (stmt.Load n file) (Word word.Load ∷ Word word.Into ∷ Name n ∷ Word word.From ∷ Text file ∷ [])
  stmt_show : {n : List ℕ} → StmtE (stmt.Show n) (Word word.Show ∷ Name n ∷ [])
  -- query, which begins with SELECT
  stmt_query : {q : Query} {from : List Tok} → QueryE q (Word word.Select ∷ from) [] → StmtE (stmt.Query q) (Word word.Select ∷ from)
  -- BEGIN | COMMIT | ROLLBACK
  stmt_begin : StmtE stmt.Begin (Word word.Begin ∷ [])
  stmt_commit : StmtE stmt.Commit (Word word.Commit ∷ [])
  stmt_rollback : StmtE stmt.Rollback (Word word.Rollback ∷ [])
  -- CREATE SCENARIO name | DROP SCENARIO name
  stmt_create_scenario : {n : List ℕ} → StmtE (stmt.CreateScenario n) (Word word.Create ∷ Word word.Scenario ∷ Name n ∷ [])
  stmt_drop_scenario : {n : List ℕ} → StmtE (stmt.DropScenario n) (Word word.Drop ∷ Word word.Scenario ∷ Name n ∷ [])
  -- UNDER name change
  stmt_under : {n : List ℕ} {c : ChangeTree} {from : List Tok} →
      ChangeE c from → StmtE (stmt.Under n c) (Word word.Under ∷ Name n ∷ from)
  -- COMPARE name UNDER name {',' name}
  stmt_compare : {n : List ℕ} {ns : List (List ℕ)} {from : List Tok} →
      SomeOf NameE ns from [] → StmtE (stmt.Compare n ns) (Word word.Compare ∷ Name n ∷ Word word.Under ∷ from)
  -- EXPLAIN CELL name '.' name [PARTITION tuple] '[' e {',' e} ']'
  stmt_explain : {n m : List ℕ} {ps xs : List E} {from mid : List Tok} →
      MaybePart ps from (open_square ∷ mid) → Exprs xs mid (close_square ∷ []) →
      StmtE (stmt.ExplainCell n m ps xs) (Word word.Explain ∷ Word word.Cell ∷ Name n ∷ point ∷ Name m ∷ from)
