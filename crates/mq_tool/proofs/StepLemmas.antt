-- One statement: what it is bound to, and what is done of it.
use Rattle.std.proofs.Common.{◌≡◌, ℕ, List, [], ◌∷◌, ◌++◌, Bool, true, Option, Some, None, Result, Ok, Err, IsErrOf, refl, sym, ap, ◌∙◌, subst, append-nil}
use Rattle.std.specs.List.{find, list_any}
use Rattle.std.specs.Prelude.{if◌then◌else◌}
use Rattle.std.specs.Option.{ok_or, option_map_or}
use Rattle.std.specs.Io.KnownBytes.{Appends}
use Rattle.mq_io.specs.Progress.{AppendsFront}
use Rattle.mq_values.specs.Answers.{Gives, result_map}
use Rattle.mq_values.specs.declared.faults.Refused.{Refused}
use Rattle.mq_values.specs.declared.faults.Refused.TheVariants as refused
use Rattle.mq_values.specs.declared.memory.Fail.{Fail}
use Rattle.mq_values.specs.declared.memory.Fail.TheVariants as fail
use Rattle.mq_lexer.specs.Statements.{Statement}
use Rattle.mq_ast.specs.declared.statements.Stmt.{Stmt}
use Rattle.mq_ir.specs.declared.query.Answer.{Answer}
use Rattle.mq_ir.specs.declared.query.BoundQuery.{BoundQuery}
use Rattle.mq_ir.specs.declared.statement.Bound.{Bound}
use Rattle.mq_ir.specs.declared.statement.Bound.TheVariants as bound
use Rattle.mq_ir.specs.declared.statement.TableDef.{TableDef}
use Rattle.mq_ir.specs.Answer.{answer_of}
use Rattle.mq_ir.specs.Lines.{Line, RefusalLine, is_flaw, line_text, text_of}
use Rattle.mq_ir.specs.Results.{◌>>=◌}
use Rattle.mq_ir.specs.declared.catalog.View.{View}
use Rattle.mq_ir.specs.Statement.{Printed, State, answer_lines, show_step}
use Rattle.mq_ir.specs.Tables.{is_name}
use Rattle.mq_binder.specs.StatementWalk.{statement_bound}
use Rattle.mq_engine.specs.declared.views.NoView.{NoView}
use Rattle.mq_engine.specs.Catalogs.{catalog_of}
use Rattle.mq_engine.specs.Sessions.{view_answer}
use Rattle.mq_ready_laws.specs.ReadyLaws.{BoundQueryIsReady, BoundViewIsReady, CreatedTableIsNew, CreatedViewIsNew}
use Rattle.mq_tool.specs.declared.stops.Stop.{Stop}
use Rattle.mq_tool.specs.declared.stops.Stop.TheVariants as stop
use Rattle.mq_tool.specs.Loads.{FileMap}
use Rattle.mq_tool.specs.Script.{IsReadAs, NoTree, Read, Tree, meaning, or_refusal, statement_step}
use Rattle.mq_tool.specs.Needs.{CanRun, IsLoadBound}
use Rattle.mq_tool.specs.Statements.{after_refusal, taken}
use Rattle.mq_tool.specs.Steps.{CutShort, Does, Ends, Finds, Steps, Takes, Tries, Writes, stop_of}
use Rattle.mq_tool.proofs.BoundLemmas.{IsKnown, bound_is_known}
use Rattle.mq_tool.proofs.CatalogLemmas.{has_room, no_scenario, no_view, not_there}
use Rattle.mq_tool.proofs.ReadLemmas.{one_read}

-- what a statement is bound to can be done
pub can_run : (state : State) (s : Stmt) (b : Bound) → statement_bound (catalog_of state) s ≡ Ok b
    → ((def : TableDef) → CreatedTableIsNew (catalog_of state) s def)
    → ((name : List ℕ) (q : BoundQuery) → CreatedViewIsNew (catalog_of state) s name q)
    → ((q : BoundQuery) → BoundQueryIsReady (catalog_of state) s q)
    → ((name : List ℕ) (q : BoundQuery) → BoundViewIsReady (catalog_of state) s name q)
    → CanRun state b
can_run state s b e tables named queries views = by b (bound_is_known (catalog_of state) s b e) e
  where
    by : (b : Bound) → IsKnown (catalog_of state) b → statement_bound (catalog_of state) s ≡ Ok b → CanRun state b
    by (bound.CreateTable def) d e = not_there state def.name (tables def e)
    by (bound.DropTable name) d e = tt
    by (bound.CreateView name q) d e = (no_view (catalog_of state) name (named name q e), views name q e)
    by (bound.DropView name) d e = tt
    by (bound.Change change) d e = tt
    by (bound.Load table file) d e = tt
    by (bound.Show name) d e = tt
    by (bound.Query q) d e = queries q e
    by bound.Begin d e = tt
    by bound.Commit d e = tt
    by bound.Rollback d e = tt
    by (bound.CreateScenario name) d e = no_scenario (catalog_of state) name d
    by (bound.DropScenario name) d e = tt
    by (bound.Under name change) d e = has_room state name d
    by (bound.Compare view names) d e = tt
    by (bound.ExplainCell asked) d e = tt

-- the answer of a view that is there or not, and what SHOW prints of it
abbrev answered : State → Option View → List ℕ → Result Answer NoView
answered state o name = option_map_or (λ (view : View). Ok (answer_of state.tables view.query)) o (Err (record { name = name }))

abbrev told : State → Answer → Result Printed Refused
told state a = Ok (state, answer_lines a)

abbrev printed_of : State → Option View → List ℕ → Result Printed Refused
printed_of state o name = ok_or o (refused.UnknownName name) >>= (λ (view : View). told state (answer_of state.tables view.query))

abbrev unknown : List ℕ → Result Printed Refused
unknown name = Err (refused.UnknownName name)

-- what SHOW prints is what the view answers, and what it is refused for is that there is none
pub shown : (state : State) (name : List ℕ) (a : Answer) → view_answer state name ≡ Ok a → show_step state name ≡ Ok (state, answer_lines a)
shown state name a h = by (find (λ view. is_name name view.name) state.views) h
  where
    by : (o : Option View) → answered state o name ≡ Ok a → printed_of state o name ≡ told state a
    by None g = absurd cc
    by (Some view) g = let e : answer_of state.tables view.query ≡ a = cc in ap (told state) e

-- one line behind the others
pub one_line : (before after : List ℕ) (line : Line) → after ≡ before ++ line_text line → after ≡ before ++ text_of (line ∷ [])
one_line before after line e = e ∙ ap (λ t. before ++ t) (sym (append-nil (line_text line)))

-- a statement that prints one line, and one that prints an answer
pub line_taken : (meant : Result Printed Refused) (old new : State) (line : Line) (flaw : Bool) (before after : List ℕ) → meant ≡ Ok (new, line ∷ [])
    → after ≡ before ++ line_text line → flaw ≡ list_any is_flaw (line ∷ []) → Takes meant old new before after (Ok flaw)
line_taken meant old new line flaw before after e t f = ((new, line ∷ []), e, (refl, one_line before after line t, f))

pub answer_taken : (meant : Result Printed Refused) (old new : State) (a : Answer) (flaw : Bool) (before after : List ℕ) → meant ≡ Ok (old, answer_lines a) → new ≡ old
    → after ≡ before ++ text_of (answer_lines a) → flaw ≡ list_any is_flaw (answer_lines a) → Takes meant old new before after (Ok flaw)
answer_taken meant old new a flaw before after e n t f = ((old, answer_lines a), e, (n, t, f))

-- a statement that was bound is taken as its tokens mean it
meant_by : (files : FileMap) (state : State) (line : ℕ) (s : Stmt) (b : Bound) → statement_bound (catalog_of state) s ≡ Ok b
    → meaning files state (line, Tree s) ≡ taken files state line b
meant_by files state line s b e = ap (λ (r : Result Bound Refused). r >>= taken files state line) e

-- a count that was refused, with nothing changed
pub count_refused : (f : ℕ → Printed) (meant : Result Printed Refused) (old new : State) (before : List ℕ) (e : Fail Refused) → Gives (result_map f (Err e)) meant
    → new ≡ old → Takes meant old new before before (Err e)
count_refused f meant old new before (fail.Cause r) g n = (g, n, refl)
count_refused f meant old new before fail.Memory g n = tt

-- what stops for a refusal or for want of memory
pub stops : (meant : Result Printed Refused) (old new : State) (before after : List ℕ) (e : Fail Refused) → Takes meant old new before after (Err e)
    → Ends meant old new before after (Err (stop_of e))
stops meant old new before after (fail.Cause r) h = h
stops meant old new before after fail.Memory h = tt

-- which is not that a file was not fetched
abbrev stopped_by : Fail Refused → Result Bool Stop
stopped_by e = Err (stop_of e)

pub stopped_otherwise : {P : Type 0} (e : Fail Refused) → IsErrOf (stopped_by e) stop.NotFetched → P
stopped_otherwise (fail.Cause r) h = absurd cc
stopped_otherwise fail.Memory h = absurd cc

pub tried : (s : Statement) (told : Option FileMap) (old new : State) (before after : List ℕ) (t : Stmt) (b : Bound) (result : Result Bool Stop)
    → IsReadAs s.tokens (Tree t) → statement_bound (catalog_of old) t ≡ Ok b
    → ((files : FileMap) → told ≡ Some files → Ends (taken files old s.line b) old new before after result)
    → (IsErrOf result stop.NotFetched → IsLoadBound b) → (IsErrOf result stop.NotFetched → (new ≡ old) × (after ≡ before))
    → Tries s told old new before after result
tried s told old new before after t b (Ok flaw) is e h load same = (
  Tree t,
  is,
  λ files f. subst (λ (m : Result Printed Refused). Ends m old new before after (Ok flaw)) (sym (meant_by files old s.line t b e)) (h files f),
)
tried s told old new before after t b (Err stop.Memory) is e h load same = tt
tried s told old new before after t b (Err stop.NotFetched) is e h load same =
    let l = load refl in
    let kept = same refl in
    (Tree t, is, (l.0, l.1, e ∙ ap Ok l.2), kept.0, kept.1)
tried s told old new before after t b (Err (stop.Refused r)) is e h load same = (
  Tree t,
  is,
  λ files f. subst (λ (m : Result Printed Refused). Ends m old new before after (Err (stop.Refused r))) (sym (meant_by files old s.line t b e)) (h files f),
)

pub not_bound : (s : Statement) (told : Option FileMap) (old : State) (before : List ℕ) (t : Stmt) (e : Fail Refused) → IsReadAs s.tokens (Tree t)
    → Gives (Err e) (statement_bound (catalog_of old) t) → Tries s told old old before before (Err (stop_of e))
not_bound s told old before t fail.Memory is h = tt
not_bound s told old before t (fail.Cause r) is h = (
  Tree t,
  is,
  λ files f. (
    ap (λ (m : Result Bound Refused). m >>= taken files old s.line) h,
    refl,
    refl,
  ),
)

-- a statement that is not read
pub not_read : (s : Statement) (told : Option FileMap) (old : State) (before : List ℕ) (e : Fail Refused) → Finds s.tokens (Err e)
    → Tries s told old old before before (Err (stop_of e))
not_read s told old before fail.Memory h = tt
not_read s told old before (fail.Cause r) h = (
  h.0,
  h.1,
  λ files f. (ap (λ (m : Result Stmt Refused). m >>= (λ t. statement_bound (catalog_of old) t >>= taken files old s.line)) h.2, refl, refl),
)

-- a statement that was tried was done, or its refusal is its line, and a block that is there notes it or is ended by it
pub does : (s : Statement) (told : Option FileMap) (old new : State) (before after : List ℕ) (flaw : Bool) → Tries s told old new before after (Ok flaw)
    → Does s told old new before after flaw
does s told old new before after flaw h = (
  h.0,
  h.1,
  λ files is.
      let t = h.2 files is in
      subst (λ (m : Printed). Steps m new before after flaw) (sym (ap (or_refusal old s.line) t.1)) t.2,
)

pub does_refuse : (s : Statement) (told : Option FileMap) (old mid new : State) (before between after : List ℕ) (r : Refused)
    → Tries s told old mid before between (Err (stop.Refused r)) → new ≡ after_refusal mid s.line r → after ≡ between ++ line_text (RefusalLine s.line r)
    → Does s told old new before after true
does_refuse s told old mid new before between after r h n a = (
  h.0,
  h.1,
  λ files is.
      let t = h.2 files is in
      let line = RefusalLine s.line r in
      let text : after ≡ before ++ text_of (line ∷ []) = one_line before after line (a ∙ ap (λ m. m ++ line_text line) t.2) in
      subst (λ (m : Printed). Steps m new before after true) (sym (ap (or_refusal old s.line) t.0)) (n ∙ ap (λ (st : State). after_refusal st s.line r) t.1, text, refl),
)

-- its lines are written, whole or a front of them, or nothing is written
pub writes : (s : Statement) (told : Option FileMap) (old new : State) (before after : Option (List ℕ)) (text : List ℕ) (flaw : Bool)
    → Does s told old new [] text flaw → Appends before after text → Writes s told old new before after flaw
writes s told old new before after text flaw d a = (d.0, d.1, λ files is. let t = d.2 files is in (t.0, subst (Appends before after) t.1 a, t.2))

pub cut_at : (s : Statement) (told : Option FileMap) (old new : State) (before after : Option (List ℕ)) (text : List ℕ) (flaw : Bool)
    → Does s told old new [] text flaw → AppendsFront before after text → CutShort s told old before after
cut_at s told old new before after text flaw d a files read t is =
    let same : read ≡ d.0 = one_read s.tokens read d.0 is d.1 in
    subst (AppendsFront before after) ((d.2 files t).1 ∙ ap (λ (r : Read). text_of (statement_step files old (s.line, r)).1) (sym same)) a
