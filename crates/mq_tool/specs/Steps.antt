-- What the parts of a run give.
use Rattle.std.specs.Prelude.{◌≡◌, ⊤, ℕ, Bool, List, ◌++◌, Option, None, Some, Result, Ok, Err}
use Rattle.std.specs.List.{list_any}
use Rattle.std.specs.Io.KnownBytes.{Appends}
use Rattle.mq_io.specs.Progress.{AppendsFront}
use Rattle.mq_values.specs.declared.faults.Refused.{Refused}
use Rattle.mq_values.specs.declared.memory.Fail.{Fail}
use Rattle.mq_values.specs.declared.memory.Fail.TheVariants as fail
use Rattle.mq_lexer.specs.Lexemes.{Lexeme}
use Rattle.mq_lexer.specs.Statements.{Statement}
use Rattle.mq_ast.specs.declared.statements.Stmt.{Stmt}
use Rattle.mq_ir.specs.declared.statement.Bound.{Bound}
use Rattle.mq_ir.specs.declared.statement.Change.{Change}
use Rattle.mq_ir.specs.Lines.{Line, is_flaw, text_of}
use Rattle.mq_ir.specs.Statement.{Block, Printed, State, change_step, hold_step}
use Rattle.mq_tool.specs.declared.stops.Stop.{Stop}
use Rattle.mq_tool.specs.declared.stops.Stop.TheVariants as stop
use Rattle.mq_tool.specs.Loads.{FileMap}
use Rattle.mq_tool.specs.Statements.{inside}
use Rattle.mq_tool.specs.Script.{ArePrinted, IsLoad, IsReadAs, Read, Tree, meaning, statement_step, tree_of}

-- why a statement stops that was refused, or found no memory
abbrev pub stop_of : Fail Refused → Stop
stop_of (fail.Cause refusal) = stop.Refused refusal
stop_of fail.Memory = stop.Memory

-- What tokens are read as, with the tree where they have one. Want of memory says nothing.
abbrev pub Finds : List Lexeme → Result Stmt (Fail Refused) → Type 0
Finds tokens (Ok s) = IsReadAs tokens (Tree s)
Finds tokens (Err (fail.Cause refusal)) = (read : Read) × IsReadAs tokens read × (tree_of read ≡ Err refusal)
Finds tokens (Err fail.Memory) = ⊤

-- a change is of the tables, or of those that are pending in a block
abbrev pub changed : State → Change → Result Printed Refused
changed state change = elim state.block [ None ↦ change_step state change | Some block ↦ hold_step state block change ]

-- the state is the one that is meant, the lines that are meant were appended, and it is said whether one of them is a flaw
abbrev pub Steps : Printed → State → List ℕ → List ℕ → Bool → Type 0
Steps meant state before after flaw = (state ≡ meant.0) × (after ≡ before ++ text_of meant.1) × (flaw ≡ list_any is_flaw meant.1)

-- What is meant was done, or it is refused and nothing was done. Want of memory says nothing.
abbrev pub Takes : Result Printed Refused → State → State → List ℕ → List ℕ → Result Bool (Fail Refused) → Type 0
Takes meant old new before after (Ok flaw) = (printed : Printed) × (meant ≡ Ok printed) × Steps printed new before after flaw
Takes meant old new before after (Err (fail.Cause refusal)) = (meant ≡ Err refusal) × (new ≡ old) × (after ≡ before)
Takes meant old new before after (Err fail.Memory) = ⊤

-- the same of a bound statement in the block that is there
abbrev pub TakesInside : Bound → State → State → List ℕ → List ℕ → Result Bool (Fail Refused) → Type 0
TakesInside b old new before after result =
    (files : FileMap) (block : Block) → old.block ≡ Some block → Takes (inside files old block b) old new before after result

-- the same where a file may not have been fetched, which says nothing either
abbrev pub Ends : Result Printed Refused → State → State → List ℕ → List ℕ → Result Bool Stop → Type 0
Ends meant old new before after (Ok flaw) = Takes meant old new before after (Ok flaw)
Ends meant old new before after (Err (stop.Refused refusal)) = Takes meant old new before after (Err (fail.Cause refusal))
Ends meant old new before after (Err _) = ⊤

-- the same of a statement of a script, over the files that the shelf tells
abbrev pub Tried : Statement → Option FileMap → State → State → List ℕ → List ℕ → Result Bool Stop → Type 0
Tried s told old new before after result =
    (read : Read) × IsReadAs s.tokens read
    × ((files : FileMap) → told ≡ Some files → Ends (meaning files old (s.line, read)) old new before after result)

-- a statement that is a LOAD, at which nothing was done
abbrev pub NotLoaded : List Lexeme → State → State → List ℕ → List ℕ → Type 0
NotLoaded tokens old new before after = (read : Read) × IsReadAs tokens read × IsLoad old read × (new ≡ old) × (after ≡ before)

abbrev pub Tries : Statement → Option FileMap → State → State → List ℕ → List ℕ → Result Bool Stop → Type 0
Tries s told old new before after (Err stop.Memory) = ⊤
Tries s told old new before after (Err stop.NotFetched) = NotLoaded s.tokens old new before after
Tries s told old new before after result = Tried s told old new before after result

-- a statement was done as it is read
abbrev pub Does : Statement → Option FileMap → State → State → List ℕ → List ℕ → Bool → Type 0
Does s told old new before after flaw =
    (read : Read) × IsReadAs s.tokens read
    × ((files : FileMap) → told ≡ Some files → Steps (statement_step files old (s.line, read)) new before after flaw)

-- a statement is a LOAD
abbrev pub IsLoadAt : Statement → State → Type 0
IsLoadAt s state = (read : Read) × IsReadAs s.tokens read × IsLoad state read

-- The same of a statement whose lines are written. What was taken is told or not.
abbrev pub Writes : Statement → Option FileMap → State → State → Option (List ℕ) → Option (List ℕ) → Bool → Type 0
Writes s told old new before after flaw =
    (read : Read) × IsReadAs s.tokens read
    × ((files : FileMap) → told ≡ Some files → let meant = statement_step files old (s.line, read) in
    (new ≡ meant.0) × Appends before after (text_of meant.1) × (flaw ≡ list_any is_flaw meant.1))

-- however the statement is read, a front of its lines is written
abbrev pub CutShort : Statement → Option FileMap → State → Option (List ℕ) → Option (List ℕ) → Type 0
CutShort s told old before after =
    (files : FileMap) (read : Read) → told ≡ Some files → IsReadAs s.tokens read
    → AppendsFront before after (text_of (statement_step files old (s.line, read)).1)

-- these statements have lines, all of which were written, and it is said whether one of them is a flaw
abbrev pub WritesAll : FileMap → List Statement → Option (List ℕ) → Option (List ℕ) → Bool → Type 0
WritesAll files ss before after flaw =
    (lines : List Line) × ArePrinted files ss lines × Appends before after (text_of lines) × (flaw ≡ list_any is_flaw lines)

-- whichever lines these statements have, a front of them was written
abbrev pub WritesFront : FileMap → List Statement → Option (List ℕ) → Option (List ℕ) → Type 0
WritesFront files ss before after = (lines : List Line) → ArePrinted files ss lines → AppendsFront before after (text_of lines)
