-- A statement in a block, beside the same statement over its pending tables outside of one; and then all of them.
use Rattle.std.proofs.Common.{◌≡◌, ◌⊎◌, inl, inr, ℕ, ◌+◌, List, [], ◌∷◌, ◌++◌, Bool, true, false, map, Option, Some, None, Result, Ok, Err, refl, sym, ap, ◌∙◌, subst}
use Rattle.std.specs.Prelude.{if◌then◌else◌, is_some, unwrap_or}
use Rattle.std.specs.Option.{ok_or, option_map, option_map_or}
use Rattle.mq_values.specs.declared.faults.Refused.{Refused}
use Rattle.mq_values.specs.declared.faults.Refused.TheVariants as refused
use Rattle.mq_ast.specs.declared.statements.Stmt.{Stmt}
use Rattle.mq_ast.specs.declared.statements.Stmt.TheVariants as stmt
use Rattle.mq_ir.specs.declared.catalog.Catalog.{Catalog}
use Rattle.mq_ir.specs.declared.catalog.Scenario.{Scenario}
use Rattle.mq_ir.specs.declared.catalog.TableEntry.{TableEntry}
use Rattle.mq_ir.specs.declared.catalog.View.{View}
use Rattle.mq_ir.specs.declared.statement.Bound.{Bound}
use Rattle.mq_ir.specs.declared.statement.Bound.TheVariants as bound
use Rattle.mq_ir.specs.declared.statement.Change.{Change}
use Rattle.mq_ir.specs.Changes.{Changed, table_of}
use Rattle.mq_ir.specs.Lines.{Counted, Done, Line, RefusalLine}
use Rattle.mq_ir.specs.Partitions.{Tuple}
use Rattle.mq_ir.specs.Results.{◌>>=◌}
use Rattle.mq_ir.specs.Statement.{Block, Printed, State, change_of_tables, change_step, commit_step, hold_step, note_refusal, staged, unless_refused, view_at, with_refusal, with_rows, without_block}
use Rattle.mq_ir.specs.Tables.{Table, Tables, is_name, table_at}
use Rattle.mq_binder.specs.StatementWalk.{statement_bound}
use Rattle.mq_engine.specs.Catalogs.{catalog_of, entry_of_table}
use Rattle.mq_tool.specs.Loads.{FileMap, load_change}
use Rattle.mq_tool.specs.Script.{Read, Tree, meaning, or_refusal, statement_step, tree_of}
use Rattle.mq_tool.specs.Statements.{after_refusal, inside, outside, taken}
use Rattle.mq_session_laws.specs.BlockLaws.{BlockIsItsChanges, BlockKeepsWhatWas, BlockStands, BrokenBlockIsNothing, RolledBackBlockIsNothing, after, printed_by}

-- the names of tables stay with their rows changed
entries_changed : (tables : Tables) (name : List ℕ) (rows : List Tuple) → map entry_of_table (with_rows tables name rows) ≡ map entry_of_table tables
entries_changed [] name rows = refl
entries_changed (t ∷ ts) name rows = by (is_name name t.name) (entries_changed ts name rows)
  where
    by : (b : Bool) → map entry_of_table (with_rows ts name rows) ≡ map entry_of_table ts
        → entry_of_table (if b then record t { rows = rows } else t) ∷ map entry_of_table (with_rows ts name rows) ≡ entry_of_table t ∷ map entry_of_table ts
    by true h = ap (λ es. entry_of_table t ∷ es) h
    by false h = ap (λ es. entry_of_table t ∷ es) h

abbrev given : Tables × ℕ → Result (Tables × ℕ) Refused
given changed = Ok changed

-- and so with a change
entries_keep : (tables : Tables) (change : Change) (changed : Tables × ℕ) → change_of_tables tables change ≡ Ok changed
    → map entry_of_table changed.0 ≡ map entry_of_table tables
entries_keep tables change changed h = by (table_at tables (table_of change)) h
  where
    staged_by : (t : Table) (r : Result Changed Refused) → (r >>= (λ c. given (with_rows tables t.name c.0, c.1))) ≡ Ok changed
        → map entry_of_table changed.0 ≡ map entry_of_table tables
    staged_by t (Ok c) g =
        let e : (with_rows tables t.name c.0, c.1) ≡ changed = cc in
        ap (λ (p : Tables × ℕ). map entry_of_table p.0) (sym e) ∙ entries_changed tables t.name c.0
    staged_by t (Err r) g = absurd cc

    by : (o : Option Table)
        → (ok_or o (refused.UnknownName (table_of change)) >>= (λ t. staged tables t change >>= (λ c. given (with_rows tables t.name c.0, c.1)))) ≡ Ok changed
        → map entry_of_table changed.0 ≡ map entry_of_table tables
    by None g = absurd cc
    by (Some t) g = staged_by t (staged tables t change) g

abbrev Views : Type 0
Views = List View

abbrev Scenarios : Type 0
Scenarios = List Scenario

-- a session with a block, and one without
abbrev within : Tables → Views → Scenarios → Block → State
within ts vs ss b = record { tables = ts; views = vs; scenarios = ss; block = Some b }

abbrev outer : Tables → Views → Scenarios → State
outer ts vs ss = record { tables = ts; views = vs; scenarios = ss; block = None }

-- what a statement in a block makes of it: its line is noted, or the block goes the way of its tables outside of it
abbrev Noted : Block → Type 0
Noted b = (first : ℕ) × (b.refused ≡ Some first)

-- two steps, in a block and outside of it, over the same tables
record Held (vs : Views) (ss : Scenarios) (b b' : Block) (inner out : Printed) : Type 0 where
  refused : b'.refused ≡ b.refused
  goes : out.0 ≡ outer b'.pending vs ss
  lines : inner.1 ≡ out.1

record Went (ts : Tables) (vs : Views) (ss : Scenarios) (b : Block) (inner out : Printed) : Type 0 where
  block : Block
  is : inner.0 ≡ within ts vs ss block
  stays : (first : ℕ) → b.refused ≡ Some first → block.refused ≡ Some first
  names : map entry_of_table block.pending ≡ map entry_of_table b.pending
  how : Noted block ⊎ Held vs ss b block inner out

-- a refusal that leaves the block there notes its line
refused_in : (state : State) (line : ℕ) (e : Refused) → is_some (after_refusal state line e).block ≡ true → after_refusal state line e ≡ note_refusal state line
refused_in state line (refused.BlockBroken l) h = absurd cc
refused_in state line refused.TooDeep h = refl
refused_in state line refused.Syntax h = refl
refused_in state line (refused.UnknownName n) h = refl
refused_in state line (refused.DuplicateName n) h = refl
refused_in state line refused.KindMismatch h = refl
refused_in state line (refused.ModelForm k) h = refl
refused_in state line (refused.Limit k) h = refl
refused_in state line (refused.InUse n) h = refl
refused_in state line refused.NoFile h = refl
refused_in state line refused.FileTooLong h = refl
refused_in state line refused.LoadHeader h = refl
refused_in state line (refused.LoadRow n) h = refl
refused_in state line (refused.ChangeValue n f) h = refl
refused_in state line (refused.NotNull n) h = refl
refused_in state line (refused.DuplicateKey k) h = refl
refused_in state line (refused.BlockOpen l) h = refl
refused_in state line (refused.InBlock l) h = refl
refused_in state line refused.NoBlock h = refl
refused_in state line (refused.NoPartition k) h = refl
refused_in state line (refused.NoCell k) h = refl

module _ (files : FileMap) (line : ℕ) (ts : Tables) (vs : Views) (ss : Scenarios) (b : Block) where
  abbrev inner_state : State
  inner_state = within ts vs ss b

  abbrev outer_state : State
  outer_state = outer b.pending vs ss

  abbrev inner_by : Result Printed Refused → Printed
  inner_by r = or_refusal inner_state line r

  abbrev outer_by : Result Printed Refused → Printed
  outer_by r = or_refusal outer_state line r

  abbrev Goes : Result Printed Refused → Result Printed Refused → Type 0
  Goes inner out = is_some (inner_by inner).0.block ≡ true → Went ts vs ss b (inner_by inner) (outer_by out)

  -- the first noted line stays
  noted_stays : (first : ℕ) → b.refused ≡ Some first → (with_refusal line b).refused ≡ Some first
  noted_stays first h = ap (λ o. Some (unwrap_or o line)) h

  refuses : (e : Refused) (out : Result Printed Refused) → Goes (Err e) out
  refuses e out there = record {
    block = with_refusal line b;
    is = refused_in inner_state line e there;
    stays = noted_stays;
    names = refl;
    how = inl (unwrap_or b.refused line, refl);
  }

  holds : (change : Change) → Goes (hold_step inner_state b change) (change_step outer_state change)
  holds change = by (change_of_tables b.pending change) refl
    where
      by : (r : Result (Tables × ℕ) Refused) → change_of_tables b.pending change ≡ r
          → Goes (r >>= (λ changed. Ok (record inner_state { block = Some (record b { pending = changed.0; count = b.count + changed.1 }) }, Counted changed.1 ∷ [])))
          (r >>= (λ changed. Ok (record outer_state { tables = changed.0 }, Counted changed.1 ∷ [])))
      by (Ok changed) e there = record {
        block = record b { pending = changed.0; count = b.count + changed.1 };
        is = refl;
        stays = λ first h. h;
        names = entries_keep b.pending change changed e;
        how = inr (record { refused = refl; goes = refl; lines = refl });
      }
      by (Err e) q there = refuses e (Err e) there

  loads : (r : Result Change Refused) → Goes (r >>= hold_step inner_state b) (r >>= change_step outer_state)
  loads (Ok change) = holds change
  loads (Err e) = refuses e (Err e)

  shows : (name : List ℕ) (o : Option View) (out : Result Printed Refused) → Goes (ok_or o (refused.UnknownName name) >>= (λ view. Err (refused.InBlock b.line))) out
  shows name None out = refuses (refused.UnknownName name) out
  shows name (Some view) out = refuses (refused.InBlock b.line) out

  commits : (o : Option ℕ) (out : Result Printed Refused)
      → Goes (unless_refused (option_map refused.BlockBroken o) (Ok (record (without_block inner_state) { tables = b.pending }, Counted b.count ∷ []))) out
  commits None out there = absurd cc
  commits (Some first) out there = absurd cc

  -- what is bound to the same thing
  goes : (r : Result Bound Refused) → Goes (r >>= taken files inner_state line) (r >>= taken files outer_state line)
  goes (Err e) = refuses e (Err e)
  goes (Ok (bound.Change change)) = holds change
  goes (Ok (bound.Load table file)) = loads (load_change files b.pending table file)
  goes (Ok (bound.Show name)) = shows name (view_at inner_state name) (outside files outer_state line (bound.Show name))
  goes (Ok bound.Begin) = refuses (refused.BlockOpen b.line) (outside files outer_state line bound.Begin)
  goes (Ok bound.Commit) = commits b.refused (outside files outer_state line bound.Commit)
  goes (Ok bound.Rollback) = λ there. absurd cc
  goes (Ok (bound.CreateTable def)) = refuses (refused.InBlock b.line) (outside files outer_state line (bound.CreateTable def))
  goes (Ok (bound.DropTable name)) = refuses (refused.InBlock b.line) (outside files outer_state line (bound.DropTable name))
  goes (Ok (bound.CreateView name query)) = refuses (refused.InBlock b.line) (outside files outer_state line (bound.CreateView name query))
  goes (Ok (bound.DropView name)) = refuses (refused.InBlock b.line) (outside files outer_state line (bound.DropView name))
  goes (Ok (bound.Query query)) = refuses (refused.InBlock b.line) (outside files outer_state line (bound.Query query))
  goes (Ok (bound.CreateScenario name)) = refuses (refused.InBlock b.line) (outside files outer_state line (bound.CreateScenario name))
  goes (Ok (bound.DropScenario name)) = refuses (refused.InBlock b.line) (outside files outer_state line (bound.DropScenario name))
  goes (Ok (bound.Under name change)) = refuses (refused.InBlock b.line) (outside files outer_state line (bound.Under name change))
  goes (Ok (bound.Compare view names)) = refuses (refused.InBlock b.line) (outside files outer_state line (bound.Compare view names))
  goes (Ok (bound.ExplainCell asked)) = refuses (refused.InBlock b.line) (outside files outer_state line (bound.ExplainCell asked))

  -- what is read as the same thing, where the pending tables have the names of the tables
  read_goes : map entry_of_table b.pending ≡ map entry_of_table ts → (t : Result Stmt Refused)
      → Goes (t >>= (λ s. statement_bound (catalog_of inner_state) s >>= taken files inner_state line))
      (t >>= (λ s. statement_bound (catalog_of outer_state) s >>= taken files outer_state line))
  read_goes names (Err e) = refuses e (Err e)
  read_goes names (Ok s) =
      let same : catalog_of inner_state ≡ catalog_of outer_state = λ i. record { tables = sym names i; views = vs; scenarios = ss } in
      subst (λ (k : Catalog). Goes (statement_bound (catalog_of inner_state) s >>= taken files inner_state line) (statement_bound k s >>= taken files outer_state line)) same
      (goes (statement_bound (catalog_of inner_state) s))

-- all statements of a block
record HeldAll (files : FileMap) (ts : Tables) (vs : Views) (ss : Scenarios) (b b' : Block) (rs : List (ℕ × Read)) : Type 0 where
  goes : after files (outer b.pending vs ss) rs ≡ outer b'.pending vs ss
  lines : printed_by files (within ts vs ss b) rs ≡ printed_by files (outer b.pending vs ss) rs

record Walked (files : FileMap) (ts : Tables) (vs : Views) (ss : Scenarios) (b : Block) (rs : List (ℕ × Read)) : Type 0 where
  block : Block
  is : after files (within ts vs ss b) rs ≡ within ts vs ss block
  stays : (first : ℕ) → b.refused ≡ Some first → block.refused ≡ Some first
  how : Noted block ⊎ HeldAll files ts vs ss b block rs

module _ (files : FileMap) (ts : Tables) (vs : Views) (ss : Scenarios) where
  -- one statement, and then the rest
  module _ (b : Block) (r : ℕ × Read) (rs : List (ℕ × Read)) where
    abbrev inner_step : Printed
    inner_step = statement_step files (within ts vs ss b) r

    abbrev outer_step : Printed
    outer_step = statement_step files (outer b.pending vs ss) r

    both : (w : Went ts vs ss b inner_step outer_step) (v : Walked files ts vs ss w.block rs) → Noted w.block ⊎ Held vs ss b w.block inner_step outer_step
        → Noted v.block ⊎ HeldAll files ts vs ss w.block v.block rs → Noted v.block ⊎ HeldAll files ts vs ss b v.block (r ∷ rs)
    both w v (inl n) k = inl (n.0, v.stays n.0 n.1)
    both w v (inr h) (inl n) = inl n
    both w v (inr h) (inr g) = inr (record {
      goes = ap (λ (s : State). after files s rs) h.goes ∙ g.goes;
      lines =
          ap (λ (ls : List Line). ls ++ printed_by files inner_step.0 rs) h.lines
          ∙ ap (λ (s : State). outer_step.1 ++ printed_by files s rs) w.is
          ∙ ap (λ (ls : List Line). outer_step.1 ++ ls) g.lines
          ∙ ap (λ (s : State). outer_step.1 ++ printed_by files s rs) (sym h.goes);
    })

    walk_on : (w : Went ts vs ss b inner_step outer_step) → Walked files ts vs ss w.block rs → Walked files ts vs ss b (r ∷ rs)
    walk_on w v = record {
      block = v.block;
      is = ap (λ (s : State). after files s rs) w.is ∙ v.is;
      stays = λ first h. v.stays first (w.stays first h);
      how = both w v w.how v.how;
    }

  walk : (b : Block) (rs : List (ℕ × Read)) → map entry_of_table b.pending ≡ map entry_of_table ts → BlockStands files (within ts vs ss b) rs
      → Walked files ts vs ss b rs
  walk b [] names stands = record { block = b; is = refl; stays = λ first h. h; how = inr (record { goes = refl; lines = refl }) }
  walk b (r ∷ rs) names stands =
      let w = read_goes files r.0 ts vs ss b names (tree_of r.1) stands.0 in
      walk_on b r rs w (walk w.block rs (w.names ∙ names) (subst (λ (s : State). BlockStands files s rs) w.is stands.1))

  -- the laws, of a session whose parts are given: BEGIN
  abbrev begun : ℕ → Block
  begun line = record { pending = ts; line = line; count = 0; refused = None }

  abbrev now : ℕ → List (ℕ × Read) → State
  now line rs = after files (within ts vs ss (begun line)) rs

  walked : (line : ℕ) (rs : List (ℕ × Read)) → BlockStands files (within ts vs ss (begun line)) rs → Walked files ts vs ss (begun line) rs
  walked line rs stands = walk (begun line) rs refl stands

  the_block : (line : ℕ) (rs : List (ℕ × Read)) (w : Walked files ts vs ss (begun line) rs) (b : Block) → (now line rs).block ≡ Some b → w.block ≡ b
  the_block line rs w b h = let e : Some w.block ≡ Some b = ap (λ (s : State). s.block) (sym w.is) ∙ h in cc

  keeps : (line : ℕ) (rs : List (ℕ × Read)) → BlockKeepsWhatWas files (outer ts vs ss) line rs
  keeps line rs is =
      let w = walked line rs is.1 in
      (ap (λ (s : State). s.tables) w.is, ap (λ (s : State). s.views) w.is, ap (λ (s : State). s.scenarios) w.is)

  rolls_back : (line end : ℕ) (rs : List (ℕ × Read)) → RolledBackBlockIsNothing files (outer ts vs ss) line end rs
  rolls_back line end rs is = ap (λ (s : State). statement_step files s (end, Tree stmt.Rollback)) (walked line rs is.1).is

  committed : (end : ℕ) (b : Block) (o : Option ℕ) → b.refused ≡ o
      → statement_step files (within ts vs ss b) (end, Tree stmt.Commit)
      ≡ or_refusal (within ts vs ss b) end (unless_refused (option_map refused.BlockBroken o) (Ok (outer b.pending vs ss, Counted b.count ∷ [])))
  committed end b o h =
      ap (λ (o : Option ℕ). or_refusal (within ts vs ss b) end (unless_refused (option_map refused.BlockBroken o) (Ok (outer b.pending vs ss, Counted b.count ∷ [])))) h

  -- COMMIT of the block that is there then
  commit_is : (line end : ℕ) (rs : List (ℕ × Read)) (w : Walked files ts vs ss (begun line) rs) (b : Block) → w.block ≡ b
      → statement_step files (now line rs) (end, Tree stmt.Commit) ≡ statement_step files (within ts vs ss b) (end, Tree stmt.Commit)
  commit_is line end rs w b e =
      ap (λ (s : State). statement_step files s (end, Tree stmt.Commit)) w.is
      ∙ ap (λ (b : Block). statement_step files (within ts vs ss b) (end, Tree stmt.Commit)) e

  breaks : (line end : ℕ) (rs : List (ℕ × Read)) (b : Block) (first : ℕ) → BrokenBlockIsNothing files (outer ts vs ss) line end rs b first
  breaks line end rs b first is there broken =
      let w = walked line rs is.1 in
      commit_is line end rs w b (the_block line rs w b there) ∙ committed end b (Some first) broken

  comes : (line end : ℕ) (rs : List (ℕ × Read)) (b : Block) → BlockIsItsChanges files (outer ts vs ss) line end rs b
  comes line end rs b is there whole = by w.how
    where
      w : Walked files ts vs ss (begun line) rs
      w = walked line rs is.1

      e : w.block ≡ b
      e = the_block line rs w b there

      by : Noted w.block ⊎ HeldAll files ts vs ss (begun line) w.block rs
          → (statement_step files (now line rs) (end, Tree stmt.Commit) ≡ (after files (outer ts vs ss) rs, Counted b.count ∷ []))
          × (printed_by files (within ts vs ss (begun line)) rs ≡ printed_by files (outer ts vs ss) rs)
      by (inl n) = let k : None ≡ Some n.0 = sym whole ∙ ap (λ (b : Block). b.refused) (sym e) ∙ n.1 in absurd cc
      by (inr h) = (
        commit_is line end rs w b e ∙ committed end b None whole
            ∙ ap (λ (s : State). (s, Counted b.count ∷ [])) (ap (λ (b : Block). outer b.pending vs ss) (sym e) ∙ sym h.goes),
        h.lines,
      )

-- a session in which no block is there
outer_is : (state : State) → state.block ≡ None → outer state.tables state.views state.scenarios ≡ state
outer_is state none = λ i. record { tables = state.tables; views = state.views; scenarios = state.scenarios; block = sym none i }

pub block_keeps_what_was : (files : FileMap) (state : State) (line : ℕ) (rs : List (ℕ × Read)) → BlockKeepsWhatWas files state line rs
block_keeps_what_was files state line rs is =
    subst (λ (s : State). BlockKeepsWhatWas files s line rs) (outer_is state is.0) (keeps files state.tables state.views state.scenarios line rs) is

pub rolled_back_block_is_nothing : (files : FileMap) (state : State) (line end : ℕ) (rs : List (ℕ × Read)) → RolledBackBlockIsNothing files state line end rs
rolled_back_block_is_nothing files state line end rs is =
    subst (λ (s : State). RolledBackBlockIsNothing files s line end rs) (outer_is state is.0) (rolls_back files state.tables state.views state.scenarios line end rs) is

pub broken_block_is_nothing : (files : FileMap) (state : State) (line end : ℕ) (rs : List (ℕ × Read)) (b : Block) (first : ℕ) → BrokenBlockIsNothing files state line end rs b first
broken_block_is_nothing files state line end rs b first is =
    subst (λ (s : State). BrokenBlockIsNothing files s line end rs b first) (outer_is state is.0) (breaks files state.tables state.views state.scenarios line end rs b first) is

pub block_is_its_changes : (files : FileMap) (state : State) (line end : ℕ) (rs : List (ℕ × Read)) (b : Block) → BlockIsItsChanges files state line end rs b
block_is_its_changes files state line end rs b is =
    subst (λ (s : State). BlockIsItsChanges files s line end rs b) (outer_is state is.0) (comes files state.tables state.views state.scenarios line end rs b) is
