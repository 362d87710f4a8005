-- The lines that statements print, as data and as text.
use Rattle.std.specs.Prelude.{ℕ, decimal, List, [], ◌∷◌, ◌++◌, Bool, true, false, codes, Option, Some, None}
use Rattle.std.specs.List.{flat_map, join_by}
use Rattle.mq_values.specs.Print.{printed}
use Rattle.mq_values.specs.declared.faults.FaultKind.{FaultKind}
use Rattle.mq_values.specs.declared.faults.FaultKind.TheVariants as kind
use Rattle.mq_values.specs.declared.faults.QueryFault.{QueryFault}
use Rattle.mq_values.specs.declared.faults.Refused.{Refused}
use Rattle.mq_values.specs.declared.faults.Refused.TheVariants as refused
use Rattle.mq_ir.specs.declared.query.DerivationStep.{DerivationStep}
use Rattle.mq_ir.specs.declared.query.Slot.{Slot}
use Rattle.mq_ir.specs.declared.query.Slot.TheVariants as slot
use Rattle.mq_ir.specs.Partitions.{Tuple}
use Rattle.mq_ir.specs.Placed.{kind_of}

pub data Line : Type 0 where
  -- a table or a view was created or dropped
  Done : Line
  -- so many rows were inserted, visited as true, or loaded
  Counted : ℕ → Line
  -- a row of an answer
  RowLine : Tuple → Line
  -- so many rows were printed
  RowCount : ℕ → Line
  -- a query's first fault
  FaultLine : QueryFault → Line
  -- the statement whose first token is on this line of the script was refused
  RefusalLine : ℕ → Refused → Line
  -- what a comparison says of the scenario of this name follows
  ScenarioLine : List ℕ → Line
  -- the change of this number of a scenario was refused
  StoppedLine : ℕ → Refused → Line
  -- a step of a derivation, with the name of its measure
  StepLine : List ℕ → DerivationStep → Line
  -- so many steps were printed
  StepCount : ℕ → Line

abbrev pub fault_name : FaultKind → List ℕ
fault_name kind.NotUnique = codes "NOT_UNIQUE"
fault_name kind.Overflow = codes "OVERFLOW"
fault_name kind.DivideByZero = codes "DIVIDE_BY_ZERO"
fault_name kind.TextTooLong = codes "TEXT_TOO_LONG"
fault_name kind.Cycle = codes "CYCLE"
fault_name kind.AssignedTwice = codes "ASSIGNED_TWICE"
fault_name kind.SelfOrder = codes "SELF_ORDER"
fault_name kind.TooManyCells = codes "TOO_MANY_CELLS"
fault_name kind.TooManyUnfolded = codes "TOO_MANY_UNFOLDED"
fault_name kind.TooManyRows = codes "TOO_MANY_ROWS"
fault_name kind.DateRange = codes "DATE_RANGE"

-- a key as it stands in a fault or a refusal
abbrev pub key_text : Tuple → List ℕ
key_text values = codes "(" ++ (join_by printed (codes ",") values ++ codes ")")

abbrev pub fault_text : QueryFault → List ℕ
fault_text f =
    fault_name f.kind ++ (codes " rule " ++ (decimal f.rule
    ++ (codes " partition " ++ (key_text f.partition ++ (codes " cell " ++ key_text f.cell)))))

-- a refusal's name, with its detail behind it; names in it are in capitals already
abbrev pub refusal_text : Refused → List ℕ
refusal_text refused.TooDeep = codes "TOO_DEEP"
refusal_text refused.Syntax = codes "SYNTAX"
refusal_text (refused.UnknownName name) = codes "UNKNOWN_NAME " ++ name
refusal_text (refused.DuplicateName name) = codes "DUPLICATE_NAME " ++ name
refusal_text refused.KindMismatch = codes "KIND_MISMATCH"
refusal_text (refused.ModelForm k) = codes "MODEL_FORM " ++ decimal k
refusal_text (refused.Limit k) = codes "LIMIT " ++ decimal k
refusal_text (refused.InUse view) = codes "IN_USE " ++ view
refusal_text refused.NoFile = codes "NO_FILE"
refusal_text refused.FileTooLong = codes "FILE_TOO_LONG"
refusal_text refused.LoadHeader = codes "LOAD_HEADER"
refusal_text (refused.LoadRow n) = codes "LOAD_ROW " ++ decimal n
refusal_text (refused.ChangeValue row fault) = codes "CHANGE_VALUE row " ++ (decimal row ++ (codes " " ++ fault_name (kind_of fault)))
refusal_text (refused.NotNull column) = codes "NOT_NULL " ++ column
refusal_text (refused.DuplicateKey key) = codes "DUPLICATE_KEY " ++ key_text key
refusal_text (refused.BlockOpen line) = codes "BLOCK_OPEN " ++ decimal line
refusal_text (refused.InBlock line) = codes "IN_BLOCK " ++ decimal line
refusal_text refused.NoBlock = codes "NO_BLOCK"
refusal_text (refused.BlockBroken line) = codes "BLOCK_BROKEN " ++ decimal line
refusal_text (refused.NoPartition key) = codes "NO_PARTITION " ++ key_text key
refusal_text (refused.NoCell key) = codes "NO_CELL " ++ key_text key

-- what stands at a step of a derivation, and what put it there: the input, or a rule
abbrev pub slot_text : Slot → List ℕ
slot_text (slot.Done v) = printed v
slot_text (slot.Faulted fault) = codes "fault " ++ fault_name (kind_of fault)
slot_text slot.Poisoned = codes "poisoned"

abbrev pub source_text : Option ℕ → List ℕ
source_text None = codes " given"
source_text (Some rule) = codes " rule " ++ decimal rule

abbrev pub step_text : List ℕ → DerivationStep → List ℕ
step_text measure step =
    measure ++ (codes " " ++ (key_text step.name.key ++ (codes " = " ++ (slot_text step.slot ++ source_text step.rule))))

-- a line's text, without the LF at its end
abbrev pub line_body : Line → List ℕ
line_body Done = codes "ok"
line_body (Counted n) = codes "ok " ++ decimal n
line_body (RowLine values) = join_by printed (codes "|") values
line_body (RowCount n) = codes "rows " ++ decimal n
line_body (FaultLine f) = codes "fault " ++ fault_text f
line_body (RefusalLine line r) = codes "error line " ++ (decimal line ++ (codes ": " ++ refusal_text r))
line_body (ScenarioLine name) = codes "scenario " ++ name
line_body (StoppedLine k r) = codes "refused " ++ (decimal k ++ (codes " " ++ refusal_text r))
line_body (StepLine measure step) = step_text measure step
line_body (StepCount n) = codes "steps " ++ decimal n

abbrev pub LF : ℕ
LF = 10

abbrev pub line_text : Line → List ℕ
line_text line = line_body line ++ LF ∷ []

-- lines, one after another
abbrev pub text_of : List Line → List ℕ
text_of lines = flat_map line_text lines

abbrev pub is_refusal : Line → Bool
is_refusal (RefusalLine line r) = true
is_refusal _ = false

-- an error or a fault
abbrev pub is_flaw : Line → Bool
is_flaw (FaultLine f) = true
is_flaw (RefusalLine line r) = true
is_flaw _ = false
