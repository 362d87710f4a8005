-- Where no statement reads the tokens, by its parts.
use Rattle.std.proofs.Common.{◌≢◌, ℕ, List, [], ◌∷◌, Result, Ok, Err, refl}
use Rattle.mq_values.specs.declared.memory.Fail.{Fail}
use Rattle.mq_values.specs.declared.faults.Refused.{Refused}
use Rattle.mq_ast.specs.declared.statements.ChangeTree.{ChangeTree}
use Rattle.mq_ast.specs.declared.statements.ColDef.{ColDef}
use Rattle.mq_ast.specs.declared.expressions.E.{E}
use Rattle.mq_ast.specs.declared.statements.Stmt.TheVariants as stmt
use Rattle.mq_lexer.specs.declared.terminals.Terminal.TheVariants as terminal
use Rattle.mq_lexer.specs.declared.keywords.Keyword.TheVariants as word
use Rattle.mq_ast.specs.Prelude.{Name, NameE, Not, QueryE, SomeOf, StmtE, Tok, Word, name, point, stmt_begin, stmt_change}
use Rattle.mq_ast.specs.Prelude.{stmt_commit, stmt_compare, stmt_create_scenario, stmt_create_table, stmt_create_view}
use Rattle.mq_ast.specs.Prelude.{stmt_drop_scenario, stmt_drop_table, stmt_drop_view, stmt_explain, stmt_load, stmt_query}
use Rattle.mq_ast.specs.Prelude.{stmt_rollback, stmt_show, stmt_under}
use Rattle.mq_parse_words.specs.Names.{TextE, txt}
use Rattle.mq_parse_words.specs.Reading.{No, Anywhere}
use Rattle.mq_parse_words.specs.StepLemmas.{exit}
use Rattle.mq_parse_stmt.specs.Parsing.{NoChange, NoStmt, Whole, WholeChange}
use Rattle.mq_parse_stmt.specs.Pieces.{WordName, word_name, Body, body, Measure, measure, Spot, spot}
use Rattle.mq_parse_stmt.specs.Results.{changed}
use Rattle.mq_parse_stmt.proofs.LastLemmas.{NoneOf}

-- CREATE TABLE
pub table_no_name : {ts : List Tok} → No NameE Anywhere ts → NoStmt (Word word.Create ∷ Word word.Table ∷ ts)
table_no_name h a (stmt_create_table d k) = h _ _ name tt
table_no_name h a (stmt_change d) = elim d [ ]

pub table_no_body : {n : List ℕ} {ts : List Tok} → NoneOf Body ts → NoStmt (Word word.Create ∷ Word word.Table ∷ Name n ∷ ts)
table_no_body h a (stmt_create_table d k) = h _ (body d k)
table_no_body h a (stmt_change d) = elim d [ ]

pub table_read : {n : List ℕ} {b : List ColDef × List (List ℕ)} {ts : List Tok} → Body b ts [] → StmtE (stmt.CreateTable n b.0 b.1) (Word word.Create ∷ Word word.Table ∷ Name n ∷ ts)
table_read (body d k) = stmt_create_table d k

-- CREATE VIEW
pub view_no_name : {ts : List Tok} → Not (terminal.Word word.Table) ts → Not (terminal.Word word.Scenario) ts → No (WordName word.View) Anywhere ts → NoStmt (Word word.Create ∷ ts)
view_no_name n m h a (stmt_create_table d k) = n refl
view_no_name n m h a stmt_create_scenario = m refl
view_no_name n m h a (stmt_create_view d) = h _ _ word_name tt
view_no_name n m h a (stmt_change d) = elim d [ ]

pub view_no_as : {n : List ℕ} {ts : List Tok} → Not (terminal.Word word.As) ts → NoStmt (Word word.Create ∷ Word word.View ∷ Name n ∷ ts)
view_no_as x a (stmt_create_view d) = x refl
view_no_as x a (stmt_change d) = elim d [ ]

pub view_no_query : {n : List ℕ} {ts : List Tok} → NoneOf QueryE ts → NoStmt (Word word.Create ∷ Word word.View ∷ Name n ∷ Word word.As ∷ ts)
view_no_query h a (stmt_create_view d) = h _ d
view_no_query h a (stmt_change d) = elim d [ ]

-- DROP
pub drop_table_no_name : {ts : List Tok} → NoneOf NameE ts → NoStmt (Word word.Drop ∷ Word word.Table ∷ ts)
drop_table_no_name h a stmt_drop_table = h _ name
drop_table_no_name h a (stmt_change d) = elim d [ ]

pub drop_view_no_name : {ts : List Tok} → Not (terminal.Word word.Table) ts → Not (terminal.Word word.Scenario) ts → NoneOf (WordName word.View) ts → NoStmt (Word word.Drop ∷ ts)
drop_view_no_name n m h a stmt_drop_table = n refl
drop_view_no_name n m h a stmt_drop_scenario = m refl
drop_view_no_name n m h a stmt_drop_view = h _ word_name
drop_view_no_name n m h a (stmt_change d) = elim d [ ]

-- LOAD and SHOW
pub load_no_name : {ts : List Tok} → No (WordName word.Into) Anywhere ts → NoStmt (Word word.Load ∷ ts)
load_no_name h a stmt_load = h _ _ word_name tt
load_no_name h a (stmt_change d) = elim d [ ]

pub load_no_from : {n : List ℕ} {ts : List Tok} → Not (terminal.Word word.From) ts → NoStmt (Word word.Load ∷ Word word.Into ∷ Name n ∷ ts)
load_no_from x a stmt_load = x refl
load_no_from x a (stmt_change d) = elim d [ ]

pub load_no_text : {n : List ℕ} {ts : List Tok} → NoneOf TextE ts → NoStmt (Word word.Load ∷ Word word.Into ∷ Name n ∷ Word word.From ∷ ts)
load_no_text h a stmt_load = h _ txt
load_no_text h a (stmt_change d) = elim d [ ]

pub show_no_name : {ts : List Tok} → NoneOf NameE ts → NoStmt (Word word.Show ∷ ts)
show_no_name h a stmt_show = h _ name
show_no_name h a (stmt_change d) = elim d [ ]

-- a query
pub query_no_query : {ts : List Tok} → NoneOf QueryE (Word word.Select ∷ ts) → NoStmt (Word word.Select ∷ ts)
query_no_query h a (stmt_query d) = h _ d
query_no_query h a (stmt_change d) = elim d [ ]

-- BEGIN, COMMIT and ROLLBACK
pub begin_no_more : {ts : List Tok} → ts ≢ [] → NoStmt (Word word.Begin ∷ ts)
begin_no_more n a stmt_begin = n refl
begin_no_more n a (stmt_change d) = elim d [ ]

pub commit_no_more : {ts : List Tok} → ts ≢ [] → NoStmt (Word word.Commit ∷ ts)
commit_no_more n a stmt_commit = n refl
commit_no_more n a (stmt_change d) = elim d [ ]

pub rollback_no_more : {ts : List Tok} → ts ≢ [] → NoStmt (Word word.Rollback ∷ ts)
rollback_no_more n a stmt_rollback = n refl
rollback_no_more n a (stmt_change d) = elim d [ ]

-- CREATE SCENARIO and DROP SCENARIO
pub create_scenario_no_name : {ts : List Tok} → NoneOf NameE ts → NoStmt (Word word.Create ∷ Word word.Scenario ∷ ts)
create_scenario_no_name h a stmt_create_scenario = h _ name
create_scenario_no_name h a (stmt_change d) = elim d [ ]

pub drop_scenario_no_name : {ts : List Tok} → NoneOf NameE ts → NoStmt (Word word.Drop ∷ Word word.Scenario ∷ ts)
drop_scenario_no_name h a stmt_drop_scenario = h _ name
drop_scenario_no_name h a (stmt_change d) = elim d [ ]

-- UNDER
pub under_no_name : {ts : List Tok} → No NameE Anywhere ts → NoStmt (Word word.Under ∷ ts)
under_no_name h a (stmt_under d) = h _ _ name tt
under_no_name h a (stmt_change d) = elim d [ ]

pub under_no_change : {n : List ℕ} {ts : List Tok} → NoChange ts → NoStmt (Word word.Under ∷ Name n ∷ ts)
under_no_change h a (stmt_under d) = h _ d
under_no_change h a (stmt_change d) = elim d [ ]

-- COMPARE
pub compare_no_name : {ts : List Tok} → No NameE Anywhere ts → NoStmt (Word word.Compare ∷ ts)
compare_no_name h a (stmt_compare d) = h _ _ name tt
compare_no_name h a (stmt_change d) = elim d [ ]

pub compare_no_under : {n : List ℕ} {ts : List Tok} → Not (terminal.Word word.Under) ts → NoStmt (Word word.Compare ∷ Name n ∷ ts)
compare_no_under x a (stmt_compare d) = x refl
compare_no_under x a (stmt_change d) = elim d [ ]

pub compare_no_scenarios : {n : List ℕ} {ts : List Tok} → NoneOf (SomeOf NameE) ts → NoStmt (Word word.Compare ∷ Name n ∷ Word word.Under ∷ ts)
compare_no_scenarios h a (stmt_compare d) = h _ d
compare_no_scenarios h a (stmt_change d) = elim d [ ]

-- EXPLAIN CELL
pub explain_no_measure : {ts : List Tok} → No Measure Anywhere ts → NoStmt (Word word.Explain ∷ ts)
explain_no_measure h a (stmt_explain p d) = h _ _ measure tt
explain_no_measure h a (stmt_change d) = elim d [ ]

pub explain_no_spot : {n m : List ℕ} {ts : List Tok} → NoneOf Spot ts → NoStmt (Word word.Explain ∷ Word word.Cell ∷ Name n ∷ point ∷ Name m ∷ ts)
explain_no_spot h a (stmt_explain p d) = h _ (spot p d)
explain_no_spot h a (stmt_change d) = elim d [ ]

pub explain_read : {n m : List ℕ} {s : List E × List E} {ts : List Tok} → Spot s ts [] → StmtE (stmt.ExplainCell n m s.0 s.1) (Word word.Explain ∷ Word word.Cell ∷ Name n ∷ point ∷ Name m ∷ ts)
explain_read (spot p d) = stmt_explain p d

-- a change, where no word of another statement stands first
pub none_other : {ts : List Tok} → Not (terminal.Word word.Create) ts → Not (terminal.Word word.Drop) ts → Not (terminal.Word word.Select) ts → Not (terminal.Word word.Show) ts → Not (terminal.Word word.Load) ts → Not (terminal.Word word.Explain) ts → Not (terminal.Word word.Begin) ts → Not (terminal.Word word.Commit) ts → Not (terminal.Word word.Rollback) ts → Not (terminal.Word word.Under) ts → Not (terminal.Word word.Compare) ts → NoChange ts → NoStmt ts
none_other c d q w l e b k r u p h a (stmt_create_table _ _) = c refl
none_other c d q w l e b k r u p h a (stmt_create_view _) = c refl
none_other c d q w l e b k r u p h a stmt_create_scenario = c refl
none_other c d q w l e b k r u p h a stmt_drop_table = d refl
none_other c d q w l e b k r u p h a stmt_drop_view = d refl
none_other c d q w l e b k r u p h a stmt_drop_scenario = d refl
none_other c d q w l e b k r u p h a (stmt_query _) = q refl
none_other c d q w l e b k r u p h a stmt_show = w refl
none_other c d q w l e b k r u p h a stmt_load = l refl
none_other c d q w l e b k r u p h a (stmt_explain _ _) = e refl
none_other c d q w l e b k r u p h a stmt_begin = b refl
none_other c d q w l e b k r u p h a stmt_commit = k refl
none_other c d q w l e b k r u p h a stmt_rollback = r refl
none_other c d q w l e b k r u p h a (stmt_under _) = u refl
none_other c d q w l e b k r u p h a (stmt_compare _) = p refl
none_other c d q w l e b k r u p h a (stmt_change x) = h _ x

pub changed_whole : {ts : List Tok} (r : Result ChangeTree (Fail Refused)) → WholeChange ts r → (NoChange ts → NoStmt ts) → Whole ts (changed r)
changed_whole (Ok c) d h = stmt_change d
changed_whole (Err f) d h = exit f d h
