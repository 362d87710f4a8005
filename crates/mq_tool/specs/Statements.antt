-- What a bound statement makes of a session, and what it prints: outside of a block, and in one.
use Rattle.std.specs.Prelude.{ℕ, ◌+◌, List, [], ◌∷◌, length, Some, None, Result, Ok, Err}
use Rattle.std.specs.Option.{ok_or}
use Rattle.mq_values.specs.declared.faults.Refused.{Refused}
use Rattle.mq_values.specs.declared.faults.Refused.TheVariants as refused
use Rattle.mq_ir.specs.declared.statement.Bound.{Bound}
use Rattle.mq_ir.specs.declared.statement.Bound.TheVariants as bound
use Rattle.mq_ir.specs.declared.statement.Change.{Change}
use Rattle.mq_ir.specs.Answer.{answer_of}
use Rattle.mq_ir.specs.Explaining.{explain_step}
use Rattle.mq_ir.specs.Lines.{Counted, Done}
use Rattle.mq_ir.specs.Results.{◌>>=◌}
use Rattle.mq_ir.specs.Scenarios.{add_change, changes_at, compare_step, create_scenario, drop_scenario}
use Rattle.mq_ir.specs.Statement.{Block, Printed, State, answer_lines, change_step, commit_step, create_table, create_view, drop_table, drop_view, hold_step, note_refusal, open_block, show_step, view_at, without_block}
use Rattle.mq_tool.specs.Loads.{FileMap, load_change}

-- a statement that prints `ok`
abbrev pub done : State → Result Printed Refused
done state = Ok (state, Done ∷ [])

-- a scenario takes a change in, and the number of its changes is printed
abbrev pub under_step : State → List ℕ → Change → Result Printed Refused
under_step state name change = Ok (add_change state name change, Counted (length (changes_at state name) + 1) ∷ [])

-- a statement that starts on this line of the script, where no block is there
abbrev pub outside : FileMap → State → ℕ → Bound → Result Printed Refused
outside files state line (bound.CreateTable def) = done (create_table state def)
outside files state line (bound.DropTable name) = drop_table state name
outside files state line (bound.CreateView name query) = done (create_view state name query)
outside files state line (bound.DropView name) = done (drop_view state name)
outside files state line (bound.Change change) = change_step state change
outside files state line (bound.Load table file) = load_change files state.tables table file >>= change_step state
outside files state line (bound.Show name) = show_step state name
outside files state line (bound.Query query) = Ok (state, answer_lines (answer_of state.tables query))
outside files state line bound.Begin = done (open_block state line)
outside files state line bound.Commit = Err refused.NoBlock
outside files state line bound.Rollback = Err refused.NoBlock
outside files state line (bound.CreateScenario name) = done (create_scenario state name)
outside files state line (bound.DropScenario name) = done (drop_scenario state name)
outside files state line (bound.Under name change) = under_step state name change
outside files state line (bound.Compare view names) = compare_step state view names
outside files state line (bound.ExplainCell asked) = explain_step state asked

-- The same in a block: changes are of its pending tables, and nothing else may stand there. That SHOW names no view comes first.
abbrev pub inside : FileMap → State → Block → Bound → Result Printed Refused
inside files state block (bound.Change change) = hold_step state block change
inside files state block (bound.Load table file) = load_change files block.pending table file >>= hold_step state block
inside files state block bound.Begin = Err (refused.BlockOpen block.line)
inside files state block bound.Commit = commit_step state block
inside files state block bound.Rollback = done (without_block state)
inside files state block (bound.Show name) =
    ok_or (view_at state name) (refused.UnknownName name) >>= (λ view. Err (refused.InBlock block.line))
inside files state block _ = Err (refused.InBlock block.line)

-- what a bound statement makes of a session and prints, or why it is refused
abbrev pub taken : FileMap → State → ℕ → Bound → Result Printed Refused
taken files state line b = elim state.block [ None ↦ outside files state line b | Some block ↦ inside files state block b ]

-- What a refusal leaves: all as it was, but that a block notes the line, and that a refused COMMIT ends it.
abbrev pub after_refusal : State → ℕ → Refused → State
after_refusal state line (refused.BlockBroken first) = without_block state
after_refusal state line _ = note_refusal state line
