-- The cells that a single left side assigns.
use Rattle.std.specs.Prelude.{Bool, true, false, not, List, [], ◌∷◌, map, if◌then◌else◌}
use Rattle.std.specs.List.{filter, list_all, list_any, zip}
use Rattle.std.specs.Ordering.{is_eq, then_cmp}
use Rattle.std.specs.declared.cmp.Ordering.{Ordering}
use Rattle.mq_values.specs.DimTests.{meets}
use Rattle.mq_values.specs.Order.{cmp_key, cmp_value}
use Rattle.mq_values.specs.declared.operators.DimTest.{DimTest}
use Rattle.mq_values.specs.declared.operators.Mode.{Mode}
use Rattle.mq_values.specs.declared.operators.Mode.TheVariants.{Update, Upsert, UpsertAll}
use Rattle.mq_values.specs.declared.value.Value.{Value}
use Rattle.mq_values.specs.declared.value.Value.TheVariants.{Null}
use Rattle.mq_ir.specs.declared.query.SingleLeft.{SingleLeft}
use Rattle.mq_ir.specs.declared.query.SinglePlace.{SinglePlace}
use Rattle.mq_ir.specs.declared.query.SinglePlace.TheVariants.{At, Sym}
use Rattle.mq_ir.specs.Keys.{each_first, is_among}
use Rattle.mq_ir.specs.Partitions.{Tuple, ascending}
use Rattle.mq_ir.specs.Printing.{cmp_columns}

-- the assigned cells in the order in which they are assigned, and those of them that are created
pub record Targets : Type 0 where
  pub cells : List Tuple
  pub created : List Tuple

-- a tuple that meets the test of each dimension
abbrev pub meets_every : List DimTest → Tuple → Bool
meets_every tests key = list_all (λ (test, v). meets v test) (zip tests key)

abbrev pub place_is_symbolic : SinglePlace → Bool
place_is_symbolic (At v) = false
place_is_symbolic (Sym test) = true

-- a left side with a symbolic item
abbrev pub is_symbolic : SingleLeft → Bool
is_symbolic left = list_any place_is_symbolic left.places

-- a value at a place: it is the one that is named, or it meets the test
abbrev pub meets_place : SinglePlace × Value → Bool
meets_place (At v, w) = is_eq (cmp_value v w)
meets_place (Sym test, w) = meets w test

-- a value at a symbolic place; a positional place asks nothing
abbrev pub meets_symbolic : SinglePlace × Value → Bool
meets_symbolic (At v, w) = true
meets_symbolic (Sym test, w) = meets w test

abbrev pub meets_left : SingleLeft → Tuple → Bool
meets_left left key = list_all meets_place (zip left.places key)

abbrev pub meets_symbols : SingleLeft → Tuple → Bool
meets_symbols left key = list_all meets_symbolic (zip left.places key)

-- the value that a place names, or, where it is symbolic, the one that the cell has there
abbrev pub value_at : SinglePlace × Value → Value
value_at (At v, w) = v
value_at (Sym test, w) = w

-- a cell with the positional values in its positional places
abbrev pub projected : SingleLeft → Tuple → Tuple
projected left key = map value_at (zip left.places key)

-- the value that a positional place names
abbrev pub value_of : SinglePlace → Value
value_of (At v) = v
value_of (Sym test) = Null

-- the tuple that positional places name
abbrev pub named : SingleLeft → Tuple
named left = map value_of left.places

-- The targets in no order, over the cells that are there. Without a symbolic item it is the one named cell, under UPDATE only where it is there. With one, it is the
-- cells that meet every item; under UPSERT ALL it is each combination of values that some cell has in the symbolic dimensions and that meets them, with the positional values.
abbrev pub targets_in : SingleLeft → Mode → List Tuple → List Tuple
targets_in left Update set = filter (meets_left left) set
targets_in left Upsert set = if is_symbolic left then filter (meets_left left) set else named left ∷ []
targets_in left UpsertAll set = if is_symbolic left then each_first (map (projected left) (filter (meets_symbols left) set)) else named left ∷ []

-- by the rule's ORDER BY, with ties ascending
abbrev pub cmp_targets : SingleLeft → Tuple → Tuple → Ordering
cmp_targets left = then_cmp (cmp_columns left.order) cmp_key

-- the assigned cells, and of these the ones that are not there yet
abbrev pub targets : SingleLeft → Mode → List Tuple → Targets
targets left mode set =
    let cells = ascending (cmp_targets left) (targets_in left mode set) in
    record { cells = cells; created = filter (λ key. not (is_among set key)) cells }
