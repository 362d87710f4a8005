-- Which cells a model in automatic order assigns, and by which rules. No cell value is in it.
use Rattle.std.specs.Prelude.{ℕ, List, [], ◌++◌, length, map, Bool, ◌&&◌, ◌==◌, nat_lt, if◌then◌else◌, Option, Some, None, Result, Ok, Err, slice_get}
use Rattle.std.specs.List.{enumerate_from, filter, list_any}
use Rattle.std.specs.Option.{option_map, option_map_or, option_or}
use Rattle.std.specs.Ordering.{nat_cmp, on, then_cmp}
use Rattle.std.specs.declared.cmp.Ordering.{Ordering}
use Rattle.mq_values.specs.Order.{cmp_key}
use Rattle.mq_values.specs.declared.faults.FaultKind.TheVariants as kind
use Rattle.mq_ir.specs.declared.query.PartShape.{PartShape}
use Rattle.mq_ir.specs.declared.query.Rule.{Rule}
use Rattle.mq_ir.specs.declared.query.SingleLeft.{SingleLeft}
use Rattle.mq_ir.specs.Keys.{each_first, is_same}
use Rattle.mq_values.specs.declared.limits.TheConstants.{MAX_CELLS_OF_PARTITION}
use Rattle.mq_ir.specs.Partitions.{Tuple, ascending}
use Rattle.mq_ir.specs.Placed.{Placed, placed_fault}
use Rattle.mq_ir.specs.Results.{◌>>=◌, each_in_turn, marked}
use Rattle.mq_ir.specs.Targets.{targets}
use Rattle.mq_ir.specs.Unfolding.{Model, unfold_rule}

-- a cell, a measure of it, and the rule that assigns it
abbrev pub Assignment : Type 0
Assignment = Tuple × ℕ × ℕ

-- assignments stand in a shape by cell, then measure
abbrev pub cmp_assignment : Assignment → Assignment → Ordering
cmp_assignment = then_cmp (on (λ a. a.0) cmp_key) (then_cmp (on (λ a. a.1) nat_cmp) (on (λ a. a.2) nat_cmp))

-- faults are judged by rule, then cell
abbrev pub cmp_by_rule : Assignment → Assignment → Ordering
cmp_by_rule = then_cmp (on (λ a. a.2) nat_cmp) (on (λ a. a.0) cmp_key)

abbrev pub least_of : {A : Type 0} → (A → A → Ordering) → List A → Option A
least_of cmp xs = slice_get (ascending cmp xs) 0

-- the cells that are there so far, and what is assigned so far
pub record Growing : Type 0 where
  pub set : List Tuple
  pub assigned : List Assignment

abbrev pub assigns : ℕ → Tuple → Assignment → Bool
assigns m key a = is_same key a.0 && (m == a.1)

-- why a single left side may not assign these targets: one is assigned already, or the set is too large
abbrev pub shape_fault : ℕ → ℕ → List Assignment → List Tuple → List Tuple → Option Placed
shape_fault number m assigned found set =
    let again : List Tuple = filter (λ key. list_any (assigns m key) assigned) found in
    option_or (option_map (λ key. placed_fault number key kind.AssignedTwice) (least_of cmp_key again))
    (if nat_lt MAX_CELLS_OF_PARTITION (length set) then Some (placed_fault number [] kind.TooManyCells) else None)

-- one single left side
abbrev pub shape_step : ℕ → Rule → SingleLeft → Growing → Result Growing Placed
shape_step number rule left g =
    let found = targets left rule.mode g.set in
    let set = ascending cmp_key (found.created ++ g.set) in
    option_map_or Err (shape_fault number rule.measure g.assigned found.cells set)
    (Ok (record { set = set; assigned = map (λ key. (key, rule.measure, number)) found.cells ++ g.assigned }))

-- one rule: its single left sides one after another
abbrev pub shape_rule : Model → ℕ × Rule → Growing → Result Growing Placed
shape_rule model (number, rule) g =
    marked (placed_fault number []) (unfold_rule model rule 0) >>= (λ lefts. each_in_turn (shape_step number rule) lefts g)

-- the shape of an input with these keys, or the first fault on the walk over the rules
abbrev pub shape_over : Model → List Tuple → Result PartShape Placed
shape_over model keys =
    each_in_turn (shape_rule model) (enumerate_from 1 model.part.rules) (record { set = keys; assigned = [] }) >>= (λ g.
    Ok (record { base = keys; cells = g.set; assigned = ascending cmp_assignment g.assigned }))

-- the shape that is handed back where the input or the shape has a fault, or there is a cycle: nothing is assigned
abbrev pub bare_shape : List Tuple → PartShape
bare_shape keys = record { base = each_first keys; cells = each_first keys; assigned = [] }
