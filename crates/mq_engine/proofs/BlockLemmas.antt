-- The state of a session in a block, and outside of one.
use Rattle.std.proofs.Common.{◌≡◌, ℕ, ◌+◌, [], ◌∷◌, List, map, Option, Some, None, Result, Ok, Err, refl, sym, ap, ◌∙◌, subst}
use Rattle.std.specs.Option.{option_map}
use Rattle.mq_values.specs.Answers.{Gives, result_map}
use Rattle.mq_values.specs.declared.faults.Refused.{Refused}
use Rattle.mq_values.specs.declared.memory.Fail.{Fail}
use Rattle.mq_values.specs.declared.memory.Fail.TheVariants as fail
use Rattle.mq_ir.specs.declared.catalog.Catalog.{Catalog}
use Rattle.mq_ir.specs.declared.statement.Change.{Change}
use Rattle.mq_ir.specs.Lines.{Counted}
use Rattle.mq_ir.specs.Results.{◌>>=◌}
use Rattle.mq_ir.specs.Statement.{Block, Printed, State, change_of_tables, hold_step, open_block}
use Rattle.mq_ir.specs.Tables.{Tables}
use Rattle.mq_tables.specs.Pending.{holding, with_pending}
use Rattle.mq_tables.specs.Staging.{Staged}
use Rattle.mq_engine.specs.declared.open_block.OpenBlock.{OpenBlock}
use Rattle.mq_engine.specs.Blocks.{block_over, held_change, state_over}
use Rattle.mq_engine.specs.Catalogs.{entry_of_table, state_of}
use Rattle.mq_engine.proofs.HoldLemmas.{entries_held, holding_is, nothing_held}

module _ (tables : Tables) (k : Catalog) (block : Option OpenBlock) (state : State) (is : state_over tables k block ≡ state) where
  -- no block is kept where none is there
  pub none_kept : state.block ≡ None → block ≡ None
  none_kept out = by block (ap (λ (s : State). s.block) is ∙ out)
    where
      by : (b : Option OpenBlock) → option_map (block_over tables) b ≡ None → b ≡ None
      by None h = refl
      by (Some b) h = absurd (cc)

  pub outside : state.block ≡ None → state_of tables k ≡ state
  outside out = ap (state_over tables k) (sym (none_kept out)) ∙ is

-- and after a change of the tables or of the catalog there is none
pub still_outside : (tables : Tables) (k : Catalog) (block : Option OpenBlock) (state : State) → block ≡ None → state_of tables k ≡ state → state_over tables k block ≡ state
still_outside tables k block state none is = ap (state_over tables k) none ∙ is

-- the pending tables have the names and columns of the tables
pub pending_entries : (tables : Tables) (k : Catalog) (kept : Option OpenBlock) (state : State) → state_over tables k kept ≡ state → k.tables ≡ map entry_of_table tables
    → (block : Block) → state.block ≡ Some block → map entry_of_table block.pending ≡ k.tables
pending_entries tables k kept state is names block there = by kept (ap (λ (s : State). s.block) is ∙ there)
  where
    by : (b : Option OpenBlock) → option_map (block_over tables) b ≡ Some block → map entry_of_table block.pending ≡ k.tables
    by None h = absurd (cc)
    by (Some b) h =
        let q : block_over tables b ≡ block = cc in
        ap (λ (b : Block). map entry_of_table b.pending) (sym q) ∙ entries_held tables b.pending ∙ sym names

-- ---- a change is held
module _ (tables : Tables) (change : Change) where
  abbrev kept : OpenBlock → ℕ → Block × ℕ
  kept b count = (block_over tables b, count)

  -- the block that is kept stands for the block after the change
  pub held_as : (b : OpenBlock) (after : List Staged) (r : Result ℕ (Fail Refused)) → Gives (result_map (λ count. (after, count)) r) (holding tables b.pending change)
      → Gives {T = Block × ℕ} (result_map (λ count. (block_over tables (record b { pending = after; count = b.count + count }), count)) r) (held_change (block_over tables b) change)
  held_as b after (Ok count) h =
      ap (λ (r : Result (Tables × ℕ) Refused). r >>= (λ changed. Ok (record (block_over tables b) { pending = changed.0; count = b.count + changed.1 }, changed.1)))
      (sym (holding_is tables b.pending change) ∙ ap (result_map (λ (it : List Staged × ℕ). (with_pending tables it.0, it.1))) h)
  held_as b after (Err (fail.Cause e)) h =
      ap (λ (r : Result (Tables × ℕ) Refused). r >>= (λ changed. Ok (record (block_over tables b) { pending = changed.0; count = b.count + changed.1 }, changed.1)))
      (sym (holding_is tables b.pending change) ∙ ap (result_map (λ (it : List Staged × ℕ). (with_pending tables it.0, it.1))) h)
  held_as b after (Err fail.Memory) h = tt

-- what is held in the block is the step of the session
abbrev pub held_printed : State → Block → ℕ → Printed
held_printed state after count = (record state { block = Some after }, Counted count ∷ [])

abbrev held_block : Block → Tables × ℕ → Result (Block × ℕ) Refused
held_block block changed = Ok (record block { pending = changed.0; count = block.count + changed.1 }, changed.1)

abbrev printed_block : State → Block → Tables × ℕ → Result Printed Refused
printed_block state block changed =
    Ok (record state { block = Some (record block { pending = changed.0; count = block.count + changed.1 }) }, Counted changed.1 ∷ [])

module _ (state : State) (block : Block) (change : Change) where
  step_of : (r : Result (Tables × ℕ) Refused) (after : Block) (count : ℕ) → (r >>= held_block block) ≡ Ok (after, count)
      → (r >>= printed_block state block) ≡ Ok (held_printed state after count)
  step_of (Ok changed) after count h =
      let q : ◌≡◌ {A = Block × ℕ} (record block { pending = changed.0; count = block.count + changed.1 }, changed.1) (after, count) = cc in
      ap (λ (it : Block × ℕ). Ok (held_printed state it.0 it.1)) q
  step_of (Err e) after count h = absurd (cc)

  refused_of : (r : Result (Tables × ℕ) Refused) (e : Refused) → (r >>= held_block block) ≡ Err e → (r >>= printed_block state block) ≡ Err e
  refused_of (Ok changed) e h = absurd (cc)
  refused_of (Err f) e h = let q : f ≡ e = cc in ap Err q

  pub hold_is : (after : Block) (r : Result ℕ (Fail Refused)) → Gives (result_map (λ count. (after, count)) r) (held_change block change)
      → Gives {T = Printed} (result_map (held_printed state after) r) (hold_step state block change)
  hold_is after (Ok count) h = step_of (change_of_tables block.pending change) after count h
  hold_is after (Err (fail.Cause e)) h = refused_of (change_of_tables block.pending change) e h
  hold_is after (Err fail.Memory) h = tt

-- ---- the calls over the block that is kept
module _ (tables : Tables) (k : Catalog) (state : State) where
  -- the block that is kept is the block that is there
  kept_is : (b : OpenBlock) (block : Block) → state_over tables k (Some b) ≡ state → state.block ≡ Some block → block_over tables b ≡ block
  kept_is b block is there = let e : Some (block_over tables b) ≡ Some block = ap (λ (s : State). s.block) is ∙ there in cc

  pub held_in : (b after : OpenBlock) (change : Change) (r : Result ℕ (Fail Refused)) → state_over tables k (Some b) ≡ state
      → Gives (result_map (λ count. (block_over tables after, count)) r) (held_change (block_over tables b) change)
      → (block : Block) → state.block ≡ Some block → Gives {T = Printed} (result_map (λ count. (state_over tables k (Some after), Counted count ∷ [])) r) (hold_step state block change)
  held_in b after change r is h block there =
      subst (λ (s : State). Gives {T = Printed} (result_map (held_printed s (block_over tables after)) r) (hold_step state block change)) (sym is)
      (hold_is state block change (block_over tables after) r
      (subst (λ (bl : Block). Gives {T = Block × ℕ} (result_map (λ count. (block_over tables after, count)) r) (held_change bl change)) (kept_is b block is there) h))

  pub begun : (kept : Option OpenBlock) (b : OpenBlock) (line : ℕ) → state_over tables k kept ≡ state → b ≡ record { pending = []; line = line; count = 0; refused = None }
      → state_over tables k (Some b) ≡ open_block state line
  begun kept b line is e =
      ap (λ (b : OpenBlock). state_over tables k (Some b)) e
      ∙ ap (λ (ts : Tables). record (state_of tables k) { block = Some (record { pending = ts; line = line; count = 0; refused = None }) }) (nothing_held tables)
      ∙ ap (λ (s : State). open_block s line) is
