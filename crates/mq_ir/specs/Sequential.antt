-- What the rules of a model do to the cells of a partition in sequential order.
use Rattle.std.specs.Prelude.{ℕ, List, [], ◌∷◌, length, replicate, slice_set, Bool, false, ◌&&◌, not, ◌==◌, nat_lt, if◌then◌else◌, Option, Some, None, Result, Ok, Err}
use Rattle.std.specs.List.{enumerate_from, find, fold, list_any}
use Rattle.std.specs.Map.{keys_of}
use Rattle.std.specs.Option.{option_map, option_map_or}
use Rattle.mq_values.specs.declared.faults.FaultKind.TheVariants as kind
use Rattle.mq_values.specs.declared.value.Value.{Value}
use Rattle.mq_values.specs.declared.value.Value.TheVariants.{Null}
use Rattle.mq_ir.specs.declared.query.Look.{Look}
use Rattle.mq_ir.specs.declared.query.Look.TheVariants.{Measure, Presence}
use Rattle.mq_ir.specs.declared.query.Rule.{Rule}
use Rattle.mq_ir.specs.declared.query.SingleLeft.{SingleLeft}
use Rattle.mq_ir.specs.Keys.{is_among, is_same}
use Rattle.mq_values.specs.declared.limits.TheConstants.{MAX_CELLS_OF_PARTITION}
use Rattle.mq_ir.specs.Looks.{looks_of}
use Rattle.mq_ir.specs.Partitions.{Tuple, Cells, cell_at, with_cell}
use Rattle.mq_ir.specs.Placed.{Placed, placed_fault, value_fault}
use Rattle.mq_ir.specs.Reads.{Site, measure_at, right_value}
use Rattle.mq_ir.specs.Results.{◌>>=◌, each_in_turn, marked}
use Rattle.mq_ir.specs.Targets.{is_symbolic, targets}
use Rattle.mq_ir.specs.Unfolding.{Model, unfold_rule}

-- a rule at work: its number, the turn, and the cells of the input
pub record Act : Type 0 where
  pub model : Model
  pub input : List Tuple
  pub number : ℕ
  pub rule : Rule
  pub turn : ℕ

-- the cells as the rules have left them so far, and those that were a target
pub record Standing : Type 0 where
  pub cells : Cells
  pub updated : List Tuple

abbrev pub site_of : Act → List Tuple → Tuple → Site
site_of act set target = record { model = act.model; target = target; turn = act.turn; set = set }

-- created cells have null in every measure
abbrev pub with_created : Model → Cells → List Tuple → Cells
with_created model = fold (λ cells key. with_cell cells key (replicate (length model.part.measures) Null))

-- the cells, with one measure of a cell that is there set to v
abbrev pub assigned : Cells → Tuple → ℕ → Value → Cells
assigned cells key m v = option_map_or (λ measures. with_cell cells key (slice_set measures m v)) (cell_at cells key) cells

-- the measure m of a target other than this one
abbrev pub is_of_other : List Tuple → ℕ → Tuple → Look → Bool
is_of_other found m target (Measure c) = (c.measure == m) && is_among found c.key && not (is_same c.key target)
is_of_other found m target (Presence key) = false

-- with a symbolic item and no ORDER BY: the first target that looks at the assigned measure of another target
abbrev pub order_missing : Act → SingleLeft → List Tuple → List Tuple → Option Tuple
order_missing act left set found =
    let looks_past : Tuple → Bool = λ target.
    list_any (is_of_other found act.rule.measure target) (looks_of (site_of act set target) act.rule.right) in
    if is_symbolic left && (length left.order == 0) then find looks_past found else None

-- why a single left side may not act on these targets, over the cells with those that it creates
abbrev pub left_fault : Act → SingleLeft → List Tuple → List Tuple → Option Placed
left_fault act left set found =
    if nat_lt MAX_CELLS_OF_PARTITION (length set) then Some (placed_fault act.number [] kind.TooManyCells)
    else option_map (λ target. placed_fault act.number target kind.SelfOrder) (order_missing act left set found)

-- one target: its measure becomes the value of the right side over the cells as they then stand
abbrev pub target_step : Act → Tuple → Standing → Result Standing Placed
target_step act target s =
    let site = site_of act (keys_of s.cells) target in
    marked (value_fault act.number target) (right_value site act.input (measure_at s.cells) act.rule) >>= (λ v.
    Ok (record { cells = assigned s.cells target act.rule.measure v; updated = target ∷ s.updated }))

-- one single left side: its cells are created, and then its targets are assigned in order
abbrev pub left_step : Act → SingleLeft → Standing → Result Standing Placed
left_step act left s =
    let found = targets left act.rule.mode (keys_of s.cells) in
    let cells = with_created act.model s.cells found.created in
    option_map_or Err (left_fault act left (keys_of cells) found.cells)
    (each_in_turn (target_step act) found.cells (record s { cells = cells }))

-- one rule: its single left sides one after another
abbrev pub rule_step : Model → List Tuple → ℕ → ℕ × Rule → Standing → Result Standing Placed
rule_step model input turn (number, rule) s =
    let act : Act = record { model = model; input = input; number = number; rule = rule; turn = turn } in
    marked (placed_fault number []) (unfold_rule model rule turn) >>= (λ lefts. each_in_turn (left_step act) lefts s)

-- all rules in text order, numbered from 1
abbrev pub turn_step : Model → List Tuple → ℕ → Standing → Result Standing Placed
turn_step model input turn = each_in_turn (rule_step model input turn) (enumerate_from 1 model.part.rules)
