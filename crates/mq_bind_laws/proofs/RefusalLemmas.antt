-- What a statement prints where it is not refused is no refusal, and what one leaves that is refused.
use Rattle.std.proofs.Common.{◌≡◌, inl, inr, ℕ, List, [], ◌∷◌, ◌++◌, true, false, ◌||◌, map, length, Option, Some, None, Result, Ok, Err, refl, ap, ◌∙◌}
use Rattle.std.specs.List.{list_any}
use Rattle.std.specs.Option.{ok_or, option_map}
use Rattle.std.proofs.lemmas.List.Folds.{list_any-append}
use Rattle.mq_values.specs.declared.faults.Refused.{Refused}
use Rattle.mq_values.specs.declared.faults.Refused.TheVariants as refused
use Rattle.mq_ir.specs.declared.query.Answer.{Answer}
use Rattle.mq_ir.specs.declared.query.Answer.TheVariants.{Rows, Fault}
use Rattle.mq_ir.specs.declared.query.BoundQuery.{BoundQuery}
use Rattle.mq_ir.specs.declared.query.Compared.{Compared}
use Rattle.mq_ir.specs.declared.query.Compared.TheVariants.{Shown, Stopped}
use Rattle.mq_ir.specs.declared.query.DerivationStep.{DerivationStep}
use Rattle.mq_ir.specs.declared.query.Explained.{Explained}
use Rattle.mq_ir.specs.declared.query.Explained.TheVariants as explained
use Rattle.mq_ir.specs.declared.query.ModelPart.{ModelPart}
use Rattle.mq_ir.specs.declared.statement.Bound.{Bound}
use Rattle.mq_ir.specs.declared.statement.Bound.TheVariants as bound
use Rattle.mq_ir.specs.declared.statement.CellAsked.{CellAsked}
use Rattle.mq_ir.specs.declared.statement.Change.{Change}
use Rattle.mq_ir.specs.Answer.{answer_of}
use Rattle.mq_ir.specs.Explaining.{explain_step, explained_over, explanation, place_values, step_line}
use Rattle.mq_ir.specs.Lines.{RefusalLine, RowCount, RowLine, StepCount, is_refusal}
use Rattle.mq_ir.specs.Partitions.{Tuple}
use Rattle.mq_ir.specs.Scenarios.{changes_at, compared, compared_lines, comparison, scenario_lines}
use Rattle.mq_ir.specs.Statement.{Block, Printed, State, answer_lines, change_of_tables, change_step, hold_step, use_of, view_at}
use Rattle.mq_binder.specs.StatementWalk.{statement_bound}
use Rattle.mq_engine.specs.Catalogs.{catalog_of}
use Rattle.mq_tool.specs.Loads.{FileMap, load_change}
use Rattle.mq_tool.specs.Script.{Read, meaning, or_refusal, tree_of}
use Rattle.mq_tool.specs.Statements.{after_refusal, inside, outside, taken}
use Rattle.mq_bind_laws.specs.RefusedStatements.{RefusalAltersNothing, Unaltered}
use Rattle.mq_bind_laws.proofs.OutcomeLemmas.{Gave, gave_then, gave_unless}

-- nothing of what was printed is a refusal
abbrev Silent : Printed → Type 0
Silent printed = list_any is_refusal printed.1 ≡ false

abbrev Quiet : Result Printed Refused → Type 0
Quiet = Gave Silent

-- ---- answers, comparisons and derivations
rows_quiet : (rows : List Tuple) (n : ℕ) → list_any is_refusal (map RowLine rows ++ RowCount n ∷ []) ≡ false
rows_quiet [] n = refl
rows_quiet (row ∷ rows) n = rows_quiet rows n

answer_quiet : (a : Answer) → list_any is_refusal (answer_lines a) ≡ false
answer_quiet (Rows rows) = rows_quiet rows (length rows)
answer_quiet (Fault f) = refl

compared_quiet : (c : Compared) → list_any is_refusal (compared_lines c) ≡ false
compared_quiet (Shown answer) = answer_quiet answer
compared_quiet (Stopped k refusal) = refl

comparison_quiet : (state : State) (query : BoundQuery) (names : List (List ℕ)) → list_any is_refusal (comparison state query names) ≡ false
comparison_quiet state query [] = refl
comparison_quiet state query (name ∷ names) =
    list_any-append is_refusal (scenario_lines state query name) (comparison state query names)
    ∙ ap (λ b. b || list_any is_refusal (comparison state query names)) (compared_quiet (compared state.tables query (changes_at state name)))
    ∙ comparison_quiet state query names

steps_quiet : (part : ModelPart) (steps : List DerivationStep) (n : ℕ) → list_any is_refusal (map (step_line part) steps ++ StepCount n ∷ []) ≡ false
steps_quiet part [] n = refl
steps_quiet part (s ∷ steps) n = steps_quiet part steps n

explanation_quiet : (state : State) (part : ModelPart) (key cell : Tuple) (x : Explained) → Quiet (explanation state part key cell x)
explanation_quiet state part key cell (explained.Steps d) = steps_quiet part d.steps (length d.steps)
explanation_quiet state part key cell (explained.Fault fault) = refl
explanation_quiet state part key cell explained.NoPartition = tt
explanation_quiet state part key cell explained.NoCell = tt

explain_quiet : (state : State) (asked : CellAsked) → Quiet (explain_step state asked)
explain_quiet state asked =
    gave_then Silent (ok_or (view_at state asked.view) (refused.UnknownName asked.view)) _ (λ view.
    gave_then Silent (ok_or view.query.model (refused.UnknownName asked.view)) _ (λ part.
    gave_then Silent (place_values part.part_kinds asked.part) _ (λ key.
    gave_then Silent (place_values part.dims asked.cell) _ (λ cell.
    explanation_quiet state part key cell (explained_over state.tables view.query part key (record { key = cell; measure = asked.measure }))))))

-- ---- statements
change_quiet : (state : State) (change : Change) → Quiet (change_step state change)
change_quiet state change = gave_then Silent (change_of_tables state.tables change) _ (λ changed. refl)

hold_quiet : (state : State) (block : Block) (change : Change) → Quiet (hold_step state block change)
hold_quiet state block change = gave_then Silent (change_of_tables block.pending change) _ (λ changed. refl)

outside_quiet : (files : FileMap) (state : State) (line : ℕ) (b : Bound) → Quiet (outside files state line b)
outside_quiet files state line (bound.CreateTable def) = refl
outside_quiet files state line (bound.DropTable name) = gave_unless Silent (use_of state name) _ refl
outside_quiet files state line (bound.CreateView name query) = refl
outside_quiet files state line (bound.DropView name) = refl
outside_quiet files state line (bound.Change change) = change_quiet state change
outside_quiet files state line (bound.Load table file) = gave_then Silent (load_change files state.tables table file) _ (λ change. change_quiet state change)
outside_quiet files state line (bound.Show name) =
    gave_then Silent (ok_or (view_at state name) (refused.UnknownName name)) _ (λ view. answer_quiet (answer_of state.tables view.query))
outside_quiet files state line (bound.Query query) = answer_quiet (answer_of state.tables query)
outside_quiet files state line bound.Begin = refl
outside_quiet files state line bound.Commit = tt
outside_quiet files state line bound.Rollback = tt
outside_quiet files state line (bound.CreateScenario name) = refl
outside_quiet files state line (bound.DropScenario name) = refl
outside_quiet files state line (bound.Under name change) = refl
outside_quiet files state line (bound.Compare view names) =
    gave_then Silent (ok_or (view_at state view) (refused.UnknownName view)) _ (λ found. comparison_quiet state found.query names)
outside_quiet files state line (bound.ExplainCell asked) = explain_quiet state asked

inside_quiet : (files : FileMap) (state : State) (block : Block) (b : Bound) → Quiet (inside files state block b)
inside_quiet files state block (bound.Change change) = hold_quiet state block change
inside_quiet files state block (bound.Load table file) = gave_then Silent (load_change files block.pending table file) _ (λ change. hold_quiet state block change)
inside_quiet files state block bound.Begin = tt
inside_quiet files state block bound.Commit = gave_unless Silent (option_map refused.BlockBroken block.refused) _ refl
inside_quiet files state block bound.Rollback = refl
inside_quiet files state block (bound.Show name) = gave_then Silent (ok_or (view_at state name) (refused.UnknownName name)) _ (λ view. tt)
inside_quiet files state block _ = tt

taken_quiet : (files : FileMap) (state : State) (line : ℕ) (b : Bound) → Quiet (taken files state line b)
taken_quiet files state line b = by state.block
  where
    by : (o : Option Block) → Quiet (elim o [ None ↦ outside files state line b | Some block ↦ inside files state block b ])
    by None = outside_quiet files state line b
    by (Some block) = inside_quiet files state block b

meaning_quiet : (files : FileMap) (state : State) (r : ℕ × Read) → Quiet (meaning files state r)
meaning_quiet files state r =
    gave_then Silent (tree_of r.1) _ (λ s. gave_then Silent (statement_bound (catalog_of state) s) _ (λ b. taken_quiet files state r.0 b))

-- ---- where a refusal is printed, it is what the statement came to
left_as : (state : State) (line : ℕ) (e : Refused) → Unaltered state (after_refusal state line e) line e
left_as state line (refused.BlockBroken first) = record { tables = refl; views = refl; scenarios = refl; block = inr ((first, refl), refl) }
left_as state line _ = record { tables = refl; views = refl; scenarios = refl; block = inl refl }

refused_at : (state : State) (line : ℕ) (m : Result Printed Refused) → Quiet m → list_any is_refusal (or_refusal state line m).1 ≡ true
    → (e : Refused) × ((or_refusal state line m).1 ≡ RefusalLine line e ∷ []) × Unaltered state (or_refusal state line m).0 line e
refused_at state line (Ok printed) quiet h = absurd (let e : false ≡ true = rw quiet at h in cc)
refused_at state line (Err e) quiet h = (e, refl, left_as state line e)

pub refusal_alters_nothing : (files : FileMap) (state : State) (r : ℕ × Read) → RefusalAltersNothing files state r
refusal_alters_nothing files state r h = refused_at state r.0 (meaning files state r) (meaning_quiet files state r) h
