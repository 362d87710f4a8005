-- What a script prints.
use Rattle.std.specs.Prelude.{◌≡◌, ◌⊎◌, ◌≤◌, ⊤, ℕ, List, [], ◌∷◌, ◌++◌, length, map, Option, Result, Ok, Err, IsUtf8, if◌then◌else◌}
use Rattle.std.specs.List.{list_any}
use Rattle.std.specs.Io.KnownBytes.{Appends}
use Rattle.mq_values.specs.declared.faults.Refused.{Refused}
use Rattle.mq_values.specs.declared.faults.Refused.TheVariants as refused
use Rattle.mq_values.specs.declared.limits.TheConstants.{MAX_SCRIPT_BYTES}
use Rattle.mq_lexer.specs.Lexemes.{Lexeme}
use Rattle.mq_lexer.specs.Statements.{Statement, statements}
use Rattle.mq_lexer.specs.Tokens as lexer
use Rattle.mq_ast.specs.declared.statements.Stmt.{Stmt}
use Rattle.mq_ast.specs.Prelude.{StmtE, Tok, tok}
use Rattle.mq_parse_stmt.specs.Depth.{TooDeep}
use Rattle.mq_ir.specs.declared.statement.Bound.TheVariants as bound
use Rattle.mq_ir.specs.Lines.{Line, RefusalLine, is_flaw, text_of}
use Rattle.mq_ir.specs.Results.{◌>>=◌}
use Rattle.mq_ir.specs.Statement.{Printed, State}
use Rattle.mq_binder.specs.StatementWalk.{statement_bound}
use Rattle.mq_engine.specs.Catalogs.{catalog_of}
use Rattle.mq_engine.specs.Sessions.{nothing}
use Rattle.mq_tool.specs.Loads.{FileMap}
use Rattle.mq_tool.specs.Statements.{after_refusal, taken}
use Rattle.mq_tool.specs.declared.statuses.TheConstants.{DONE, FLAWED, NOT_UTF8}

-- What the tokens of a statement are read as: they nest too deep, or no statement reads them, or this one does.
pub data Read : Type 0 where
  Deep : Read
  NoTree : Read
  Tree : Stmt → Read

-- the tokens as the grammar sees them
abbrev pub seen : List Lexeme → List Tok
seen tokens = map (λ t. tok t.terminal t.text) tokens

abbrev pub IsReadAs : List Lexeme → Read → Type 0
IsReadAs tokens Deep = TooDeep (seen tokens)
IsReadAs tokens NoTree = (TooDeep (seen tokens) → ⊥) × ((s : Stmt) → StmtE s (seen tokens) → ⊥)
IsReadAs tokens (Tree s) = (TooDeep (seen tokens) → ⊥) × StmtE s (seen tokens)

-- statements, and each one's line with what its tokens are read as
abbrev pub AreReadAs : List Statement → List (ℕ × Read) → Type 0
AreReadAs [] [] = ⊤
AreReadAs (s ∷ ss) (r ∷ rs) = (r.0 ≡ s.line) × IsReadAs s.tokens r.1 × AreReadAs ss rs
AreReadAs _ _ = ⊥

-- the tree, or why there is none
abbrev pub tree_of : Read → Result Stmt Refused
tree_of Deep = Err refused.TooDeep
tree_of NoTree = Err refused.Syntax
tree_of (Tree s) = Ok s

-- what a statement on this line does and prints: it is bound under the names that stand, and then taken
abbrev pub meaning : FileMap → State → ℕ × Read → Result Printed Refused
meaning files state r = tree_of r.1 >>= (λ s. statement_bound (catalog_of state) s >>= taken files state r.0)

-- a refused statement prints its refusal with its line
abbrev pub or_refusal : State → ℕ → Result Printed Refused → Printed
or_refusal state line (Ok printed) = printed
or_refusal state line (Err refusal) = (after_refusal state line refusal, RefusalLine line refusal ∷ [])

-- the statement step: the state after a statement that starts on this line, and what it prints
abbrev pub statement_step : FileMap → State → ℕ × Read → Printed
statement_step files state r = or_refusal state r.0 (meaning files state r)

-- the state after statements, one after another, from this state on, and their lines
abbrev pub state_from : FileMap → State → List (ℕ × Read) → State
state_from files state [] = state
state_from files state (r ∷ rs) = state_from files (statement_step files state r).0 rs

abbrev pub lines_from : FileMap → State → List (ℕ × Read) → List Line
lines_from files state [] = []
lines_from files state (r ∷ rs) = (statement_step files state r).1 ++ lines_from files (statement_step files state r).0 rs

-- bytes that are a script: not too many, and UTF-8
abbrev pub IsScript : List ℕ → Type 0
IsScript bytes = (length bytes ≤ MAX_SCRIPT_BYTES) × IsUtf8 bytes

-- these are the lines of these statements, which start with no table and no view
pub record ArePrinted (files : FileMap) (ss : List Statement) (lines : List Line) : Type 0 where
  pub reads : List (ℕ × Read)
  pub are_read : AreReadAs ss reads
  pub printed : lines ≡ lines_from files nothing reads

-- these are the lines of a script
abbrev pub IsOutput : FileMap → List ℕ → List Line → Type 0
IsOutput files text lines = ArePrinted files (statements (lexer.tokens text)) lines

-- a statement that is a LOAD, read and bound under the names that stand
abbrev pub IsLoad : State → Read → Type 0
IsLoad state (Tree s) =
    (table : List ℕ) × (file : List ℕ) × (statement_bound (catalog_of state) s ≡ Ok (bound.Load table file))
IsLoad state _ = ⊥

-- A run stopped at a LOAD: the lines of all statements before it were written, and nothing more.
pub record StoppedAtLoad (files : FileMap) (ss : List Statement) (before after : Option (List ℕ)) : Type 0 where
  pub done : List Statement
  pub load : Statement
  pub others : List Statement
  pub all : ss ≡ done ++ load ∷ others
  pub reads : List (ℕ × Read)
  pub are_read : AreReadAs done reads
  pub written : Appends before after (text_of (lines_from files nothing reads))
  pub read : Read
  pub is_read : IsReadAs load.tokens read
  pub is_load : IsLoad (state_from files nothing reads) read

-- the same of the statements of a script
abbrev pub StopsAtLoad : FileMap → List ℕ → Option (List ℕ) → Option (List ℕ) → Type 0
StopsAtLoad files text before after = StoppedAtLoad files (statements (lexer.tokens text)) before after

-- the status of a run that was not cut short
abbrev pub status_of : List Line → ℕ
status_of lines = if list_any is_flaw lines then FLAWED else DONE

-- the statuses of runs that were not cut short
abbrev pub IsWhole : ℕ → Type 0
IsWhole status = (status ≡ DONE) ⊎ (status ≡ FLAWED)

-- the statuses are numbered from DONE to NOT_UTF8
abbrev pub IsStatus : ℕ → Type 0
IsStatus status = status ≤ NOT_UTF8
