-- A block that is there, and none.
use Rattle.std.proofs.Common.{◌≡◌, ℕ, List, Bool, true, false, map, Option, Some, None, Result, Err, refl, sym, ap, ◌∙◌, subst}
use Rattle.std.specs.Prelude.{is_some}
use Rattle.std.specs.Option.{option_map, option_map_or}
use Rattle.mq_values.specs.Answers.{Gives}
use Rattle.mq_values.specs.declared.faults.Refused.{Refused}
use Rattle.mq_values.specs.declared.faults.Refused.TheVariants as refused
use Rattle.mq_values.specs.declared.memory.Fail.{Fail}
use Rattle.mq_ir.specs.declared.catalog.Catalog.{Catalog}
use Rattle.mq_ir.specs.declared.statement.Bound.{Bound}
use Rattle.mq_ir.specs.declared.statement.Bound.TheVariants as bound
use Rattle.mq_ir.specs.declared.statement.Change.{Change}
use Rattle.mq_ir.specs.Statement.{Block, Printed, State, change_step, hold_step}
use Rattle.mq_ir.specs.Tables.{Tables}
use Rattle.mq_engine.specs.Catalogs.{catalog_of, entry_of_table}
use Rattle.mq_tool.specs.Loads.{FileMap}
use Rattle.mq_tool.specs.Needs.{BeganAt, CanTake}
use Rattle.mq_tool.specs.Statements.{inside, outside, taken}
use Rattle.mq_tool.specs.Steps.{Takes, TakesInside, changed}

abbrev line_of : Block → ℕ
line_of block = block.line

none_by_test : (o : Option Block) → is_some o ≡ false → o ≡ None
none_by_test None h = refl
none_by_test (Some block) h = absurd cc

none_by_line : (o : Option Block) → option_map line_of o ≡ None → o ≡ None
none_by_line None h = refl
none_by_line (Some block) h = absurd cc

some_by_line : (o : Option Block) (line : ℕ) → option_map line_of o ≡ Some line → is_some o ≡ true
some_by_line None line h = absurd cc
some_by_line (Some block) line h = refl

-- no block is there, as a test or the line of its BEGIN says
pub no_block : (state : State) → is_some state.block ≡ false → state.block ≡ None
no_block state = none_by_test state.block

pub no_line : (state : State) → option_map line_of state.block ≡ None → state.block ≡ None
no_line state = none_by_line state.block

-- one is there
pub is_there : (state : State) (line : ℕ) → BeganAt state line → is_some state.block ≡ true
is_there state line = some_by_line state.block line

-- the line of its BEGIN
pub began_there : (state : State) (line : ℕ) (block : Block) → BeganAt state line → state.block ≡ Some block → line ≡ block.line
began_there state line block began is =
    let e : Some line ≡ Some block.line = sym began ∙ ap (option_map line_of) is in
    let at : line ≡ block.line = cc in
    at

-- what is bound is taken outside of a block, or in the one that is there
pub outside_is : (files : FileMap) (state : State) (line : ℕ) (b : Bound) → state.block ≡ None → taken files state line b ≡ outside files state line b
outside_is files state line b none = ap (λ (o : Option Block). elim o [ None ↦ outside files state line b | Some block ↦ inside files state block b ]) none

pub inside_is : (files : FileMap) (state : State) (line : ℕ) (b : Bound) (block : Block) → state.block ≡ Some block
    → taken files state line b ≡ inside files state block b
inside_is files state line b block is = ap (λ (o : Option Block). elim o [ None ↦ outside files state line b | Some block ↦ inside files state block b ]) is

-- what else may not stand in a block
pub not_in_block : (files : FileMap) (state : State) (block : Block) (b : Bound) → CanTake state b → ((change : Change) → b ≡ bound.Change change → ⊥)
    → (b ≡ bound.Begin → ⊥) → (b ≡ bound.Commit → ⊥) → (b ≡ bound.Rollback → ⊥) → ((name : List ℕ) → b ≡ bound.Show name → ⊥)
    → inside files state block b ≡ Err (refused.InBlock block.line)
not_in_block files state block (bound.CreateTable def) can change begin commit rollback show = refl
not_in_block files state block (bound.DropTable name) can change begin commit rollback show = refl
not_in_block files state block (bound.CreateView name query) can change begin commit rollback show = refl
not_in_block files state block (bound.DropView name) can change begin commit rollback show = refl
not_in_block files state block (bound.Change c) can change begin commit rollback show = absurd (change c refl)
not_in_block files state block (bound.Load table file) can change begin commit rollback show = absurd can
not_in_block files state block (bound.Show name) can change begin commit rollback show = absurd (show name refl)
not_in_block files state block (bound.Query query) can change begin commit rollback show = refl
not_in_block files state block bound.Begin can change begin commit rollback show = absurd (begin refl)
not_in_block files state block bound.Commit can change begin commit rollback show = absurd (commit refl)
not_in_block files state block bound.Rollback can change begin commit rollback show = absurd (rollback refl)
not_in_block files state block (bound.CreateScenario name) can change begin commit rollback show = refl
not_in_block files state block (bound.DropScenario name) can change begin commit rollback show = refl
not_in_block files state block (bound.Under name c) can change begin commit rollback show = refl
not_in_block files state block (bound.Compare view names) can change begin commit rollback show = refl
not_in_block files state block (bound.ExplainCell asked) can change begin commit rollback show = refl

-- and so is a change
pub changed_outside : (state : State) (change : Change) → state.block ≡ None → changed state change ≡ change_step state change
changed_outside state change none = ap (λ (o : Option Block). elim o [ None ↦ change_step state change | Some block ↦ hold_step state block change ]) none

pub changed_inside : (state : State) (change : Change) (block : Block) → state.block ≡ Some block → changed state change ≡ hold_step state block change
changed_inside state change block is = ap (λ (o : Option Block). elim o [ None ↦ change_step state change | Some block ↦ hold_step state block change ]) is

-- what a change that is held or done gives
pub held : (state : State) (change : Change) (r : Result Printed (Fail Refused)) → is_some state.block ≡ true
    → ((block : Block) → state.block ≡ Some block → Gives r (hold_step state block change)) → Gives r (changed state change)
held state change r there h = by state.block refl
  where
    by : (o : Option Block) → state.block ≡ o → Gives r (changed state change)
    by None e = let no : true ≡ false = sym there ∙ ap is_some e in absurd cc
    by (Some block) e = subst (Gives r) (sym (changed_inside state change block e)) (h block e)

pub applied : (state : State) (change : Change) (r : Result Printed (Fail Refused)) → is_some state.block ≡ false
    → Gives r (change_step state change) → Gives r (changed state change)
applied state change r none h = subst (Gives r) (sym (changed_outside state change (no_block state none))) h

-- what is done in the block that is there, or where none is, is what is meant
pub takes_inside : (files : FileMap) (old new : State) (line began : ℕ) (b : Bound) (before after : List ℕ) (r : Result Bool (Fail Refused)) → BeganAt old began
    → TakesInside b old new before after r → Takes (taken files old line b) old new before after r
takes_inside files old new line began b before after r there h = by old.block refl
  where
    by : (o : Option Block) → old.block ≡ o → Takes (taken files old line b) old new before after r
    by None e = let no : Some began ≡ None = sym there ∙ ap (option_map line_of) e in absurd cc
    by (Some block) e = subst (λ (m : Result Printed Refused). Takes m old new before after r) (sym (inside_is files old line b block e)) (h files block e)

pub takes_outside : (files : FileMap) (old new : State) (line : ℕ) (b : Bound) (before after : List ℕ) (r : Result Bool (Fail Refused)) → old.block ≡ None
    → Takes (outside files old line b) old new before after r → Takes (taken files old line b) old new before after r
takes_outside files old new line b before after r none h =
    subst (λ (m : Result Printed Refused). Takes m old new before after r) (sym (outside_is files old line b none)) h

-- a change that is done outside of a block or in one
pub change_outside : (old new : State) (change : Change) (before after : List ℕ) (r : Result Bool (Fail Refused)) → old.block ≡ None
    → Takes (changed old change) old new before after r → Takes (change_step old change) old new before after r
change_outside old new change before after r none h = subst (λ (m : Result Printed Refused). Takes m old new before after r) (changed_outside old change none) h

pub change_inside : (old new : State) (change : Change) (block : Block) (before after : List ℕ) (r : Result Bool (Fail Refused)) → old.block ≡ Some block
    → Takes (changed old change) old new before after r → Takes (hold_step old block change) old new before after r
change_inside old new change block before after r is h =
    subst (λ (m : Result Printed Refused). Takes m old new before after r) (changed_inside old change block is) h

-- ---- the tables that a change sees

abbrev pub seen_tables : State → Tables
seen_tables state = option_map_or (λ (block : Block). block.pending) state.block state.tables

-- the catalog has their names and columns, in a block too
pub entries_seen : (state : State) (catalog : Catalog) → catalog ≡ catalog_of state
    → ((block : Block) → state.block ≡ Some block → map entry_of_table block.pending ≡ catalog.tables) → catalog.tables ≡ map entry_of_table (seen_tables state)
entries_seen state catalog is pending = by state.block refl
  where
    by : (o : Option Block) → state.block ≡ o → catalog.tables ≡ map entry_of_table (seen_tables state)
    by None e =
        ap (λ (k : Catalog). k.tables) is
        ∙ sym (ap (λ (o : Option Block). map entry_of_table (option_map_or (λ (block : Block). block.pending) o state.tables)) e)
    by (Some block) e =
        sym (pending block e)
        ∙ sym (ap (λ (o : Option Block). map entry_of_table (option_map_or (λ (block : Block). block.pending) o state.tables)) e)
