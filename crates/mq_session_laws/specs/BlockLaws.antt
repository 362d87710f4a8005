-- What a block comes to.
use Rattle.std.specs.Prelude.{◌≡◌, ⊤, ℕ, List, [], ◌∷◌, ◌++◌, true, None, Some, is_some}
use Rattle.mq_values.specs.declared.faults.Refused.TheVariants as refused
use Rattle.mq_ast.specs.declared.statements.Stmt.TheVariants as stmt
use Rattle.mq_ir.specs.Lines.{Counted, Done, Line, RefusalLine}
use Rattle.mq_ir.specs.Statement.{Block, State, open_block}
use Rattle.mq_tool.specs.Loads.{FileMap}
use Rattle.mq_tool.specs.Script.{Read, Tree, statement_step}

-- the session after statements on their lines, one after another, and the lines that they print
abbrev pub after : FileMap → State → List (ℕ × Read) → State
after files state [] = state
after files state (r ∷ rs) = after files (statement_step files state r).0 rs

abbrev pub printed_by : FileMap → State → List (ℕ × Read) → List Line
printed_by files state [] = []
printed_by files state (r ∷ rs) = (statement_step files state r).1 ++ printed_by files (statement_step files state r).0 rs

-- a block is there after each of these statements: none of them ended it
abbrev pub BlockStands : FileMap → State → List (ℕ × Read) → Type 0
BlockStands files state [] = ⊤
BlockStands files state (r ∷ rs) =
    (is_some (statement_step files state r).0.block ≡ true) × BlockStands files (statement_step files state r).0 rs

-- A block is opened by BEGIN where none is there. `in_block` is the session after its statements.
abbrev pub in_block : FileMap → State → ℕ → List (ℕ × Read) → State
in_block files state line rs = after files (statement_step files state (line, Tree stmt.Begin)).0 rs

abbrev pub IsBlock : FileMap → State → ℕ → List (ℕ × Read) → Type 0
IsBlock files state line rs = (state.block ≡ None) × BlockStands files (statement_step files state (line, Tree stmt.Begin)).0 rs

-- An unbroken block is the same statements outside of a block.
abbrev pub BlockIsItsChanges : FileMap → State → ℕ → ℕ → List (ℕ × Read) → Block → Type 0
BlockIsItsChanges files state line end rs b =
    IsBlock files state line rs → (in_block files state line rs).block ≡ Some b → b.refused ≡ None
    → (statement_step files (in_block files state line rs) (end, Tree stmt.Commit) ≡ (after files state rs, Counted b.count ∷ []))
    × (printed_by files (statement_step files state (line, Tree stmt.Begin)).0 rs ≡ printed_by files state rs)

-- Nothing of a block is seen before it is committed.
abbrev pub BlockKeepsWhatWas : FileMap → State → ℕ → List (ℕ × Read) → Type 0
BlockKeepsWhatWas files state line rs =
    IsBlock files state line rs
    → let now = in_block files state line rs in
    (now.tables ≡ state.tables) × (now.views ≡ state.views) × (now.scenarios ≡ state.scenarios)

abbrev pub RolledBackBlockIsNothing : FileMap → State → ℕ → ℕ → List (ℕ × Read) → Type 0
RolledBackBlockIsNothing files state line end rs =
    IsBlock files state line rs
    → statement_step files (in_block files state line rs) (end, Tree stmt.Rollback) ≡ (state, Done ∷ [])

abbrev pub BrokenBlockIsNothing : FileMap → State → ℕ → ℕ → List (ℕ × Read) → Block → ℕ → Type 0
BrokenBlockIsNothing files state line end rs b first =
    IsBlock files state line rs → (in_block files state line rs).block ≡ Some b → b.refused ≡ Some first
    → statement_step files (in_block files state line rs) (end, Tree stmt.Commit)
    ≡ (state, RefusalLine end (refused.BlockBroken first) ∷ [])
