-- The steps of the rules over the cells of a partition, where a cell that was a target is noted once.
use Rattle.std.specs.Prelude.{ℕ, zero, suc, ◌+◌, List, [], Bool, true, false, ◌&&◌, not, Option, Some, None, Result, Ok, Err}
use Rattle.std.specs.List.{enumerate_from, find, list_any}
use Rattle.std.specs.Map.{keys_of}
use Rattle.std.specs.Option.{option_and_then, option_map_or}
use Rattle.mq_values.specs.declared.value.Value.{Value}
use Rattle.mq_ir.specs.declared.expression.Expr.{Expr}
use Rattle.mq_ir.specs.declared.query.Rule.{Rule}
use Rattle.mq_ir.specs.declared.query.SingleLeft.{SingleLeft}
use Rattle.mq_ir.specs.Expression.{holds}
use Rattle.mq_ir.specs.Keys.{Tuple, is_among, is_same}
use Rattle.mq_ir.specs.Looks.{looks_of}
use Rattle.mq_ir.specs.Placed.{Placed, value_fault}
use Rattle.mq_ir.specs.Reads.{Site, measure_at, read_until, right_value}
use Rattle.mq_ir.specs.Results.{◌>>=◌, each_in_turn, marked}
use Rattle.mq_ir.specs.Sequential.{Act, is_of_other, left_fault, site_of}
use Rattle.mq_ir.specs.Targets.{targets}
use Rattle.mq_ir.specs.Unfolding.{Model, model_of}
use Rattle.mq_values.specs.Truth.{is_true}
use Rattle.mq_dim_index.specs.Places.{with_key}
use Rattle.mq_unfold.specs.SingleLefts.{lefts_of}
use Rattle.mq_seq.specs.Tracks.{Track, assign, begun_track, create, measure_from}
use Rattle.mq_seq.specs.declared.acting.Acting.{Acting}

-- the keys of the input, the cells as the rules have left them with what is noted of them, those that were a target, how
-- many values a key has, and how many measures a cell that is created
pub record State : Type 0 where
  pub input : List Tuple
  pub track : Track
  pub updated : List Tuple
  pub width : ℕ
  pub count : ℕ

-- a rule at work over an input
abbrev pub acting : Model → ℕ → Rule → ℕ → List Tuple → Act
acting model number rule turn input = record { model = model; input = input; number = number; rule = rule; turn = turn }

abbrev pub act_in : Acting → List Tuple → Act
act_in a = acting (model_of a.model.now) a.number a.rule.now a.turn

-- what a rule assigns to a target
abbrev pub target_value : Act → Tuple → State → Result Value Placed
target_value act target s =
    marked (value_fault act.number target) (right_value (site_of act (keys_of s.track.cells) target) s.input (measure_at s.track.cells) act.rule)

-- one target
abbrev pub target_done : (List Tuple → Act) → Tuple → State → Result State Placed
target_done act target s =
    target_value (act s.input) target s >>= (λ v.
    Ok (record s { track = assign s.track target (act s.input).rule.measure v; updated = with_key s.updated target }))

-- a key of these other than that of a target
abbrev pub is_other : List Tuple → Tuple → Tuple → Bool
is_other found target key = is_among found key && not (is_same key target)

-- whether a target looks at the assigned measure of another one of these
abbrev pub looks_past : Act → List Tuple → List Tuple → Tuple → Bool
looks_past act set found target = list_any (is_of_other found act.rule.measure target) (looks_of (site_of act set target) act.rule.right)

-- the first of these targets that does
abbrev pub first_past : Act → List Tuple → List Tuple → List Tuple → Option Tuple
first_past act set found = find (looks_past act set found)

abbrev pub created_in : List Tuple → State → State
created_in created s = record s { track = create s.count s.track created }

-- one single left side
abbrev pub left_done : (List Tuple → Act) → SingleLeft → State → Result State Placed
left_done act left s =
    let found = targets left (act s.input).rule.mode (keys_of s.track.cells) in
    let now = created_in found.created s in
    option_map_or Err (left_fault (act s.input) left (keys_of now.track.cells) found.cells) (each_in_turn (target_done act) found.cells now)

-- one rule
abbrev pub rule_done : Model → ℕ → ℕ × Rule → State → Result State Placed
rule_done model turn (number, rule) s =
    lefts_of model turn number rule >>= (λ lefts. each_in_turn (left_done (acting model number rule turn)) lefts s)

-- all rules in text order, numbered from 1
abbrev pub turn_done : Model → ℕ → State → Result State Placed
turn_done model turn = each_in_turn (rule_done model turn) (enumerate_from 1 model.part.rules)

-- UNTIL after a turn
abbrev pub until_true : Model → ℕ → State → Expr → Result Bool Placed
until_true model turn s e =
    let site : Site = record { model = model; target = []; turn = turn; set = keys_of s.track.cells } in
    marked (value_fault 0 []) (holds (read_until site s.input (measure_at s.track.cells) (measure_from s.track)) e) >>= (λ truth. Ok (is_true truth))

abbrev pub until_in : Model → Option Expr
until_in model = option_and_then (λ iterate. iterate.until) model.part.iterate

-- a turn begins here
abbrev pub begun : State → State
begun s = record s { track = begun_track s.track }

-- a turn, and whether it is the last
abbrev pub turn_with : Model → ℕ → Option Expr → State → Result (State × Bool) Placed
turn_with model turn None s = turn_done model turn s >>= (λ next. Ok (next, false))
turn_with model turn (Some e) s = turn_done model turn (begun s) >>= (λ next. until_true model turn next e >>= (λ last. Ok (next, last)))

-- the turns from this one on, so many at most
abbrev pub turns_done : Model → ℕ → ℕ → State → Result State Placed
turns_done model turn zero s = Ok s
turns_done model turn (suc more) s =
    turn_with model turn (until_in model) s >>= (λ ended.
    elim ended.1 [ true ↦ Ok ended.0 | false ↦ turns_done model (turn + 1) more ended.0 ])
