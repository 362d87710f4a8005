-- The assignments of the rules in sequential order, each of them a version of a measure of a cell. No cell value is in it.
use Rattle.std.specs.Prelude.{ℕ, List, [], ◌∷◌, map, Option, Some, None, Result, Ok, Err}
use Rattle.std.specs.BTreeSet.{insert_key}
use Rattle.std.specs.List.{enumerate_from, flat_map, fold}
use Rattle.std.specs.Option.{option_map_or}
use Rattle.mq_values.specs.Order.{cmp_key}
use Rattle.mq_values.specs.declared.faults.FaultKind.{FaultKind}
use Rattle.mq_ir.specs.declared.query.Rule.{Rule}
use Rattle.mq_ir.specs.declared.query.SingleLeft.{SingleLeft}
use Rattle.mq_ir.specs.Keys.{Tuple}
use Rattle.mq_ir.specs.Placed.{Placed, placed_fault}
use Rattle.mq_ir.specs.Sequential.{Act, left_fault}
use Rattle.mq_ir.specs.Targets.{targets}
use Rattle.mq_ir.specs.Unfolding.{Model, unfold_rule}

-- a single left side with the number of its rule, from 1, and its place among the single left sides of that rule, from 0
pub record LeftAt : Type 0 where
  pub number : ℕ
  pub place : ℕ
  pub rule : Rule
  pub left : SingleLeft

abbrev pub left_at : ℕ → Rule → ℕ × SingleLeft → Result LeftAt Placed
left_at number rule (place, left) = Ok (record { number = number; place = place; rule = rule; left = left })

-- the single left sides of a rule; a fault of unfolding stands in their place
abbrev pub lefts_or_fault : ℕ → Rule → Result (List SingleLeft) FaultKind → List (Result LeftAt Placed)
lefts_or_fault number rule (Ok lefts) = map (left_at number rule) (enumerate_from 0 lefts)
lefts_or_fault number rule (Err kind) = Err (placed_fault number [] kind) ∷ []

abbrev pub lefts_of_rule : Model → ℕ × Rule → List (Result LeftAt Placed)
lefts_of_rule model (number, rule) = lefts_or_fault number rule (unfold_rule model rule 0)

-- the single left sides of all rules in text order
abbrev pub all_lefts : Model → List (Result LeftAt Placed)
all_lefts model = flat_map (lefts_of_rule model) (enumerate_from 1 model.part.rules)

-- a single left side at work: its targets in order, those of them that it creates, and the cells that are there with these
pub record LeftAct : Type 0 where
  pub at : LeftAt
  pub created : List Tuple
  pub targets : List Tuple
  pub set : List Tuple

-- the single left sides that are at work one after another, and why it goes no further
pub record LeftWalk : Type 0 where
  pub acts : List LeftAct
  pub fault : Option Placed

-- a set of keys, with these
abbrev pub with_keys : List Tuple → List Tuple → List Tuple
with_keys = fold (insert_key cmp_key)

abbrev pub act_of : LeftAt → List Tuple → LeftAct
act_of at set =
    let found = targets at.left at.rule.mode set in
    record { at = at; created = found.created; targets = found.cells; set = with_keys set found.created }

abbrev pub rule_act : Model → LeftAt → Act
rule_act model at = record { model = model; input = []; number = at.number; rule = at.rule; turn = 0 }

-- why a single left side may not act: the cells are too many, or it matters in which order its targets come
abbrev pub act_fault : Model → LeftAct → Option Placed
act_fault model act = left_fault (rule_act model act.at) act.at.left act.set act.targets

abbrev pub ended_by : Placed → LeftWalk
ended_by fault = record { acts = []; fault = Some fault }

-- the walk over these single left sides, with the cells that are there; it ends at the first fault
abbrev pub walk_from : Model → List (Result LeftAt Placed) → List Tuple → LeftWalk
walk_from model [] set = record { acts = []; fault = None }
walk_from model (Err fault ∷ rest) set = ended_by fault
walk_from model (Ok at ∷ rest) set =
    let act = act_of at set in
    let later = walk_from model rest act.set in
    option_map_or ended_by (act_fault model act) (record { acts = act ∷ later.acts; fault = later.fault })

abbrev pub left_walk : Model → List Tuple → LeftWalk
left_walk model = walk_from model (all_lefts model)

-- An assignment of the cell at this key by a single left side of a rule, over the cells that are there then.
pub record Version : Type 0 where
  pub number : ℕ
  pub place : ℕ
  pub rule : Rule
  pub set : List Tuple
  pub key : Tuple

abbrev pub version_of : ℕ → ℕ → Rule → List Tuple → Tuple → Version
version_of number place rule set key = record { number = number; place = place; rule = rule; set = set; key = key }

abbrev pub act_versions : LeftAct → List Version
act_versions act = map (version_of act.at.number act.at.place act.at.rule act.set) act.targets

-- the versions over an input with these keys, in the order of the assignments; no value ends them, only the walk does
abbrev pub versions : Model → List Tuple → List Version
versions model keys = flat_map act_versions (left_walk model keys).acts
