-- What a session begins with, and what it answers for a view, under scenarios too, and for a cell of one.
use Rattle.std.specs.Prelude.{ℕ, List, [], map, None, Result, Ok, Err}
use Rattle.std.specs.Option.{ok_or, option_map_or}
use Rattle.mq_ir.specs.declared.query.Answer.{Answer}
use Rattle.mq_ir.specs.declared.query.CellName.{CellName}
use Rattle.mq_ir.specs.declared.query.Compared.{Compared}
use Rattle.mq_ir.specs.declared.query.Explained.{Explained}
use Rattle.mq_ir.specs.Answer.{answer_of}
use Rattle.mq_ir.specs.Explaining.{explained_over}
use Rattle.mq_ir.specs.Keys.{Tuple}
use Rattle.mq_ir.specs.Results.{◌>>=◌}
use Rattle.mq_ir.specs.Scenarios.{changes_at, compared}
use Rattle.mq_ir.specs.Statement.{State, view_at}
use Rattle.mq_engine.specs.declared.views.NoView.{NoView}

abbrev pub nothing : State
nothing = record { tables = []; views = []; scenarios = []; block = None }

-- what the view of this name answers over the tables as they stand, or that there is none
abbrev pub view_answer : State → List ℕ → Result Answer NoView
view_answer state name = option_map_or (λ view. Ok (answer_of state.tables view.query)) (view_at state name) (Err (record { name = name }))

-- what the view of this name answers under each of these scenarios, over the tables as they stand, or that there is none
abbrev pub view_compared : State → List ℕ → List (List ℕ) → Result (List Compared) NoView
view_compared state view names =
    option_map_or (λ v. Ok (map (λ name. compared state.tables v.query (changes_at state name)) names)) (view_at state view)
    (Err (record { name = view }))

abbrev pub no_view : List ℕ → NoView
no_view name = record { name = name }

-- where a measure of a cell of the view of this name comes from, in the partition with this key, or that there is no such view with MODEL
abbrev pub view_explained : State → List ℕ → Tuple → CellName → Result Explained NoView
view_explained state name key c =
    ok_or (view_at state name) (no_view name) >>= (λ view.
    ok_or view.query.model (no_view name) >>= (λ part.
    Ok (explained_over state.tables view.query part key c)))
