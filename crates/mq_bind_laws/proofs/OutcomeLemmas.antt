-- What a statement leaves where it makes, drops or shows no table and no view: the tables by their names and columns, the
-- views, and a block that holds such tables.
use Rattle.std.proofs.Common.{◌≡◌, ℕ, List, [], ◌∷◌, Bool, true, false, not, Option, Some, None, if◌then◌else◌, Result, Ok, Err, refl, sym, ap, ◌∙◌}
use Rattle.std.specs.List.{filter}
use Rattle.std.specs.Option.{ok_or, option_map, option_map_or}
use Rattle.mq_values.specs.declared.faults.Refused.{Refused}
use Rattle.mq_values.specs.declared.faults.Refused.TheVariants as refused
use Rattle.mq_ast.specs.declared.statements.Stmt.{Stmt}
use Rattle.mq_ir.specs.declared.catalog.TableEntry.{TableEntry}
use Rattle.mq_ir.specs.declared.query.Explained.{Explained}
use Rattle.mq_ir.specs.declared.query.Explained.TheVariants as explained
use Rattle.mq_ir.specs.declared.query.ModelPart.{ModelPart}
use Rattle.mq_ir.specs.declared.statement.Bound.{Bound}
use Rattle.mq_ir.specs.declared.statement.Bound.TheVariants as bound
use Rattle.mq_ir.specs.declared.statement.CellAsked.{CellAsked}
use Rattle.mq_ir.specs.declared.statement.Change.{Change}
use Rattle.mq_ir.specs.Changes.{table_of}
use Rattle.mq_ir.specs.Explaining.{explain_step, explained_over, explanation, place_values}
use Rattle.mq_ir.specs.Partitions.{Tuple}
use Rattle.mq_ir.specs.Results.{◌>>=◌}
use Rattle.mq_ir.specs.Statement.{Block, Printed, State, change_of_tables, change_step, create_table, create_view, drop_view, hold_step, staged, unless_refused, use_of, view_at, with_refusal, with_rows}
use Rattle.mq_ir.specs.Tables.{Table, Tables, is_name, table_at}
use Rattle.mq_binder.specs.StatementWalk.{statement_bound}
use Rattle.mq_engine.specs.Catalogs.{catalog_of, entry_of_table}
use Rattle.mq_tool.specs.Loads.{FileMap, load_change}
use Rattle.mq_tool.specs.Script.{Deep, NoTree, Read, Tree, or_refusal, statement_step}
use Rattle.mq_tool.specs.Statements.{after_refusal, inside, outside, taken}
use Rattle.mq_bind_laws.specs.StatementsBetween.{BlockGoesOn, BlockKeepsColumns, entries}

-- ---- what holds of what was given
abbrev pub Gave : {A : Type 0} → (A → Type 0) → Result A Refused → Type 0
Gave P (Ok x) = P x
Gave P (Err e) = Unit {0}

-- of the state that a statement leaves
abbrev pub Leaves : (State → Type 0) → Result Printed Refused → Type 0
Leaves P = Gave (λ (p : Printed). P p.0)

pub gave_then : {A B : Type 0} (P : B → Type 0) (r : Result A Refused) (f : A → Result B Refused) → ((x : A) → Gave P (f x)) → Gave P (r >>= f)
gave_then P (Ok x) f h = h x
gave_then P (Err e) f h = tt

pub gave_on : {A B : Type 0} (Q : A → Type 0) (P : B → Type 0) (r : Result A Refused) (f : A → Result B Refused) → Gave Q r → ((x : A) → Q x → Gave P (f x)) → Gave P (r >>= f)
gave_on Q P (Ok x) f q h = h x q
gave_on Q P (Err e) f q h = tt

pub gave_unless : {A : Type 0} (P : A → Type 0) (o : Option Refused) (next : Result A Refused) → Gave P next → Gave P (unless_refused o next)
gave_unless P None next h = h
gave_unless P (Some r) next h = tt

-- ---- rows may change
entry_kept : (is_it : Bool) (t : Table) (rows : List Tuple) → entry_of_table (if is_it then record t { rows = rows } else t) ≡ entry_of_table t
entry_kept true t rows = refl
entry_kept false t rows = refl

rows_change : (tables : Tables) (name : List ℕ) (rows : List Tuple) → entries (with_rows tables name rows) ≡ entries tables
rows_change [] name rows = refl
rows_change (t ∷ ts) name rows =
    ap (λ (e : TableEntry). e ∷ entries (with_rows ts name rows)) (entry_kept (is_name name t.name) t rows)
    ∙ ap (λ (es : List TableEntry). entry_of_table t ∷ es) (rows_change ts name rows)

change_entries : (tables : Tables) (change : Change) → Gave (λ (c : Tables × ℕ). entries c.0 ≡ entries tables) (change_of_tables tables change)
change_entries tables change =
    gave_then (λ (c : Tables × ℕ). entries c.0 ≡ entries tables) (ok_or (table_at tables (table_of change)) (refused.UnknownName (table_of change))) _ (λ table.
    gave_then (λ (c : Tables × ℕ). entries c.0 ≡ entries tables) (staged tables table change) _ (λ changed. rows_change tables table.name changed.0))

-- ---- states with the same names
pub record Same (state next : State) : Type 0 where
  pub entries_same : entries next.tables ≡ entries state.tables
  pub views_same : next.views ≡ state.views
  pub block : BlockKeepsColumns next

pub no_block : (next : State) → next.block ≡ None → BlockKeepsColumns next
no_block next e = ap (λ (o : Option Block). option_map_or (λ (block : Block). entries block.pending) o (entries next.tables)) e

abbrev SameIn : State → Result Printed Refused → Type 0
SameIn state = Leaves (Same state)

unchanged : (state : State) → BlockKeepsColumns state → Same state state
unchanged state keeps = record { entries_same = refl; views_same = refl; block = keeps }

noted : (line : ℕ) (o : Option Block) (es : List TableEntry) → option_map_or (λ (block : Block). entries block.pending) (option_map (with_refusal line) o) es ≡ option_map_or (λ (block : Block). entries block.pending) o es
noted line None es = refl
noted line (Some block) es = refl

pub refused_same : (state : State) (line : ℕ) (e : Refused) → BlockKeepsColumns state → Same state (after_refusal state line e)
refused_same state line (refused.BlockBroken first) keeps = record { entries_same = refl; views_same = refl; block = refl }
refused_same state line _ keeps = record { entries_same = refl; views_same = refl; block = noted line state.block (entries state.tables) ∙ keeps }

-- ---- outside of a block
-- a statement that makes and drops no table and no view
abbrev pub is_quiet : Bound → Bool
is_quiet (bound.CreateTable def) = false
is_quiet (bound.DropTable name) = false
is_quiet (bound.CreateView name query) = false
is_quiet (bound.DropView name) = false
is_quiet _ = true

explained_same : (state : State) (part : ModelPart) (key cell : Tuple) (x : Explained) → BlockKeepsColumns state → SameIn state (explanation state part key cell x)
explained_same state part key cell (explained.Steps d) keeps = unchanged state keeps
explained_same state part key cell (explained.Fault fault) keeps = unchanged state keeps
explained_same state part key cell explained.NoPartition keeps = tt
explained_same state part key cell explained.NoCell keeps = tt

explain_same : (state : State) (asked : CellAsked) → BlockKeepsColumns state → SameIn state (explain_step state asked)
explain_same state asked keeps =
    gave_then (λ (p : Printed). Same state p.0) (ok_or (view_at state asked.view) (refused.UnknownName asked.view)) _ (λ view.
    gave_then (λ (p : Printed). Same state p.0) (ok_or view.query.model (refused.UnknownName asked.view)) _ (λ part.
    gave_then (λ (p : Printed). Same state p.0) (place_values part.part_kinds asked.part) _ (λ key.
    gave_then (λ (p : Printed). Same state p.0) (place_values part.dims asked.cell) _ (λ cell.
    explained_same state part key cell (explained_over state.tables view.query part key (record { key = cell; measure = asked.measure })) keeps))))

change_same : (state : State) (change : Change) → state.block ≡ None → SameIn state (change_step state change)
change_same state change none =
    gave_on (λ (c : Tables × ℕ). entries c.0 ≡ entries state.tables) (λ (p : Printed). Same state p.0) (change_of_tables state.tables change) _ (change_entries state.tables change)
    (λ changed e. record { entries_same = e; views_same = refl; block = no_block (record state { tables = changed.0 }) none })

outside_same : (files : FileMap) (state : State) (line : ℕ) (b : Bound) → is_quiet b ≡ true → state.block ≡ None → SameIn state (outside files state line b)
outside_same files state line (bound.CreateTable def) q none = absurd cc
outside_same files state line (bound.DropTable name) q none = absurd cc
outside_same files state line (bound.CreateView name query) q none = absurd cc
outside_same files state line (bound.DropView name) q none = absurd cc
outside_same files state line (bound.Change change) q none = change_same state change none
outside_same files state line (bound.Load table file) q none =
    gave_then (λ (p : Printed). Same state p.0) (load_change files state.tables table file) _ (λ change. change_same state change none)
outside_same files state line (bound.Show name) q none =
    gave_then (λ (p : Printed). Same state p.0) (ok_or (view_at state name) (refused.UnknownName name)) _ (λ view. unchanged state (no_block state none))
outside_same files state line (bound.Query query) q none = unchanged state (no_block state none)
outside_same files state line bound.Begin q none = record { entries_same = refl; views_same = refl; block = refl }
outside_same files state line bound.Commit q none = tt
outside_same files state line bound.Rollback q none = tt
outside_same files state line (bound.CreateScenario name) q none = record { entries_same = refl; views_same = refl; block = no_block state none }
outside_same files state line (bound.DropScenario name) q none = record { entries_same = refl; views_same = refl; block = no_block state none }
outside_same files state line (bound.Under name change) q none = record { entries_same = refl; views_same = refl; block = no_block state none }
outside_same files state line (bound.Compare view names) q none =
    gave_then (λ (p : Printed). Same state p.0) (ok_or (view_at state view) (refused.UnknownName view)) _ (λ found. unchanged state (no_block state none))
outside_same files state line (bound.ExplainCell asked) q none = explain_same state asked (no_block state none)

-- ---- in a block
hold_same : (state : State) (block : Block) (change : Change) → entries block.pending ≡ entries state.tables → SameIn state (hold_step state block change)
hold_same state block change keeps =
    gave_on (λ (c : Tables × ℕ). entries c.0 ≡ entries block.pending) (λ (p : Printed). Same state p.0) (change_of_tables block.pending change) _ (change_entries block.pending change)
    (λ changed e. record { entries_same = refl; views_same = refl; block = e ∙ keeps })

inside_same : (files : FileMap) (state : State) (block : Block) (b : Bound) → entries block.pending ≡ entries state.tables → SameIn state (inside files state block b)
inside_same files state block (bound.Change change) keeps = hold_same state block change keeps
inside_same files state block (bound.Load table file) keeps =
    gave_then (λ (p : Printed). Same state p.0) (load_change files block.pending table file) _ (λ change. hold_same state block change keeps)
inside_same files state block bound.Begin keeps = tt
inside_same files state block bound.Commit keeps =
    gave_unless (λ (p : Printed). Same state p.0) (option_map refused.BlockBroken block.refused) _ (record { entries_same = keeps; views_same = refl; block = refl })
inside_same files state block bound.Rollback keeps = record { entries_same = refl; views_same = refl; block = refl }
inside_same files state block (bound.Show name) keeps =
    gave_then (λ (p : Printed). Same state p.0) (ok_or (view_at state name) (refused.UnknownName name)) _ (λ view. tt)
inside_same files state block _ keeps = tt

-- ---- a statement step
-- what holds of each state with the same names, and of what a statement that makes or drops a name leaves outside of a block
pub record Steps (files : FileMap) (state : State) (r : ℕ × Read) (P : State → Type 0) : Type 0 where
  pub keeps : BlockKeepsColumns state
  pub same : (next : State) → Same state next → P next
  pub others : (s : Stmt) (b : Bound) → r.1 ≡ Tree s → statement_bound (catalog_of state) s ≡ Ok b → is_quiet b ≡ false → state.block ≡ None → Leaves P (outside files state r.0 b)

all_same : (state : State) (P : State → Type 0) → ((next : State) → Same state next → P next) → (r : Result Printed Refused) → SameIn state r → Leaves P r
all_same state P h (Ok printed) s = h printed.0 s
all_same state P h (Err e) s = tt

module _ (files : FileMap) (state : State) (r : ℕ × Read) (P : State → Type 0) (h : Steps files state r P) where
  by_quiet : (s : Stmt) (b : Bound) (quiet : Bool) → is_quiet b ≡ quiet → r.1 ≡ Tree s → statement_bound (catalog_of state) s ≡ Ok b → state.block ≡ None → Leaves P (outside files state r.0 b)
  by_quiet s b true q is e none = all_same state P h.same (outside files state r.0 b) (outside_same files state r.0 b q none)
  by_quiet s b false q is e none = h.others s b is e q none

  by_block : (s : Stmt) (b : Bound) (block : Option Block) → state.block ≡ block → r.1 ≡ Tree s → statement_bound (catalog_of state) s ≡ Ok b
      → Leaves P (elim block [ None ↦ outside files state r.0 b | Some block ↦ inside files state block b ])
  by_block s b None e is bound_as = by_quiet s b (is_quiet b) refl is bound_as e
  by_block s b (Some block) e is bound_as =
      let keeps : entries block.pending ≡ entries state.tables = ap (λ (o : Option Block). option_map_or (λ (block : Block). entries block.pending) o (entries state.tables)) (sym e) ∙ h.keeps in
      all_same state P h.same (inside files state block b) (inside_same files state block b keeps)

  out : (m : Result Printed Refused) → Leaves P m → P (or_refusal state r.0 m).0
  out (Ok printed) l = l
  out (Err e) l = h.same (after_refusal state r.0 e) (refused_same state r.0 e h.keeps)

  by_bound : (s : Stmt) → r.1 ≡ Tree s → (b : Result Bound Refused) → statement_bound (catalog_of state) s ≡ b → Leaves P (b >>= taken files state r.0)
  by_bound s is (Ok b) e = by_block s b state.block refl is e
  by_bound s is (Err e) k = tt

  by_read : (x : Read) → r.1 ≡ x → P (statement_step files state (r.0, x)).0
  by_read Deep e = h.same (after_refusal state r.0 refused.TooDeep) (refused_same state r.0 refused.TooDeep h.keeps)
  by_read NoTree e = h.same (after_refusal state r.0 refused.Syntax) (refused_same state r.0 refused.Syntax h.keeps)
  by_read (Tree s) e = out (statement_bound (catalog_of state) s >>= taken files state r.0) (by_bound s e (statement_bound (catalog_of state) s) refl)

  pub stepped : P (statement_step files state r).0
  stepped = by_read r.1 refl

-- ---- a block
others_without : (files : FileMap) (state : State) (line : ℕ) (b : Bound) → is_quiet b ≡ false → state.block ≡ None → Leaves BlockKeepsColumns (outside files state line b)
others_without files state line (bound.CreateTable def) q none = no_block (create_table state def) none
others_without files state line (bound.DropTable name) q none =
    gave_unless (λ (p : Printed). BlockKeepsColumns p.0) (use_of state name) _ (no_block (record state { tables = filter (λ (t : Table). not (is_name name t.name)) state.tables }) none)
others_without files state line (bound.CreateView name query) q none = no_block (create_view state name query) none
others_without files state line (bound.DropView name) q none = no_block (drop_view state name) none
others_without files state line _ q none = absurd cc

pub block_goes_on : (files : FileMap) (state : State) (r : ℕ × Read) → BlockGoesOn files state r
block_goes_on files state r keeps =
    stepped files state r BlockKeepsColumns (record {
      keeps = keeps;
      same = λ next s. s.block;
      others = λ s b is e q none. others_without files state r.0 b q none;
    })
