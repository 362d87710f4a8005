-- A scenario's changes over tables and over a session, and what a change of another scenario leaves.
use Rattle.std.proofs.Common.{◌≡◌, ℕ, List, [], ◌∷◌, ◌++◌, Bool, true, false, cond, map, Option, Some, None, Result, Ok, Err, refl, sym, ap, ◌∙◌}
use Rattle.std.specs.Prelude.{if◌then◌else◌, find}
use Rattle.std.specs.List.{enumerate_from}
use Rattle.std.specs.Option.{option_map_or}
use Rattle.std.proofs.lemmas.Cmp.{nat_list_eq_equiv}
use Rattle.mq_values.specs.declared.faults.Refused.{Refused}
use Rattle.mq_ir.specs.declared.catalog.Scenario.{Scenario}
use Rattle.mq_ir.specs.declared.query.BoundQuery.{BoundQuery}
use Rattle.mq_ir.specs.declared.query.Compared.{Compared}
use Rattle.mq_ir.specs.declared.query.Compared.TheVariants.{Shown, Stopped}
use Rattle.mq_ir.specs.declared.statement.Change.{Change}
use Rattle.mq_ir.specs.Answer.{answer_of}
use Rattle.mq_ir.specs.Lines.{Counted, ScenarioLine}
use Rattle.mq_ir.specs.Results.{◌>>=◌, each_in_turn, marked}
use Rattle.mq_ir.specs.Scenarios.{Stop, add_change, changes_at, compared, compared_lines, numbered_change, scenario_lines, tables_under}
use Rattle.mq_ir.specs.Statement.{Printed, State, change_of_tables}
use Rattle.mq_ir.specs.Tables.{Tables, is_name}
use Rattle.mq_session_laws.specs.ScenarioLaws.{OthersPlayNoPart, ScenarioIsSession, answered, session_step, session_under}

abbrev told : BoundQuery → Result Tables Stop → Compared
told query r = elim r [ Ok changed ↦ Shown (answer_of changed query) | Err stop ↦ Stopped stop.0 stop.1 ]

abbrev made : State → Tables × ℕ → Result Printed Refused
made state changed = Ok (record state { tables = changed.0 }, Counted changed.1 ∷ [])

-- the tables of a session go the way of the tables alone
goes : (query : BoundQuery) (changes : List (ℕ × Change)) (state : State)
    → told query (each_in_turn numbered_change changes state.tables) ≡ answered query (each_in_turn session_step changes state)
goes query [] state = refl
goes query ((k, change) ∷ rest) state = by (goes query rest) (change_of_tables state.tables change)
  where
    by : ((state : State) → told query (each_in_turn numbered_change rest state.tables) ≡ answered query (each_in_turn session_step rest state))
        → (r : Result (Tables × ℕ) Refused)
        → told query ((marked (λ refusal. (k, refusal)) r >>= (λ changed. Ok changed.0)) >>= each_in_turn numbered_change rest)
        ≡ answered query ((marked (λ refusal. (k, refusal)) (r >>= made state) >>= (λ printed. Ok printed.0)) >>= each_in_turn session_step rest)
    by go (Ok changed) = go (record state { tables = changed.0 })
    by go (Err refusal) = refl

pub scenario_is_session : (state : State) (query : BoundQuery) (changes : List Change) → ScenarioIsSession state query changes
scenario_is_session state query changes = goes query (enumerate_from 1 changes) state

-- the scenario of a name that a change goes to has that name still, and no other
module _ (name other : List ℕ) (change : Change) (apart : is_name name other ≡ false) where
  abbrev changed : Scenario → Scenario
  changed s = if is_name other s.name then record s { changes = s.changes ++ change ∷ [] } else s

  abbrev found : List Scenario → Option Scenario
  found ss = find (λ (s : Scenario). is_name name s.name) ss

  abbrev changes_found : Option Scenario → List Change
  changes_found o = option_map_or (λ (s : Scenario). s.changes) o []

  not_both : (n : List ℕ) → is_name other n ≡ true → is_name name n ≡ true → ⊥
  not_both n h g =
      let k : true ≡ false = sym h ∙ nat_list_eq_equiv.symm other n ∙ sym (nat_list_eq_equiv.congr name n other g) ∙ apart in
      absurd cc

  one : (s : Scenario) (ss : List Scenario) → changes_found (found (map changed ss)) ≡ changes_found (found ss)
      → (b : Bool) → is_name other s.name ≡ b → (c : Bool) → is_name name s.name ≡ c
      → changes_found (cond (is_name name (if b then record s { changes = s.changes ++ change ∷ [] } else s).name) (Some (if b then record s { changes = s.changes ++ change ∷ [] } else s)) (found (map changed ss)))
      ≡ changes_found (cond c (Some s) (found ss))
  one s ss k true h true g = absurd (not_both s.name h g)
  one s ss k true h false g = ap (λ c. changes_found (cond c (Some (record s { changes = s.changes ++ change ∷ [] })) (found (map changed ss)))) g ∙ k
  one s ss k false h true g = ap (λ c. changes_found (cond c (Some s) (found (map changed ss)))) g
  one s ss k false h false g = ap (λ c. changes_found (cond c (Some s) (found (map changed ss)))) g ∙ k

  others_keep : (ss : List Scenario) → changes_found (found (map changed ss)) ≡ changes_found (found ss)
  others_keep [] = refl
  others_keep (s ∷ ss) =
      one s ss (others_keep ss) (is_name other s.name) refl (is_name name s.name) refl

pub others_play_no_part : (state : State) (query : BoundQuery) (name other : List ℕ) (change : Change) → OthersPlayNoPart state query name other change
others_play_no_part state query name other change apart =
    ap (λ (changes : List Change). ScenarioLine name ∷ compared_lines (compared state.tables query changes)) (others_keep name other change apart state.scenarios)
