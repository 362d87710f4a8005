-- The assigned measures of a shape, in the order in which a derivation tells them.
use Rattle.std.specs.Prelude.{ℕ, ◌<◌, List, ◌++◌, Option, length, slice_get}
use Rattle.std.specs.List.{All, filter_map, flat_map}
use Rattle.std.specs.Option.{option_map}
use Rattle.std.specs.Ordering.{nat_cmp, on, then_cmp}
use Rattle.std.specs.declared.cmp.Ordering.{Ordering}
use Rattle.mq_ir.specs.declared.query.CellName.{CellName}
use Rattle.mq_ir.specs.declared.query.PartShape.{PartShape}
use Rattle.mq_ir.specs.Derivations.{assigned_names, cmp_name, derived_sources, given_sources, round_of}
use Rattle.mq_ir.specs.Partitions.{ascending}
use Rattle.mq_ir.specs.Shape.{Assignment}
use Rattle.mq_ir.specs.Unfolding.{Model}
use Rattle.mq_cells.specs.Stores.{name_assigned}

-- measures by their rounds, and then ascending
abbrev pub cmp_by_round : Model → PartShape → CellName → CellName → Ordering
cmp_by_round model shape = then_cmp (on (round_of model shape) nat_cmp) cmp_name

-- the assigned ones in that order
abbrev pub by_rounds : Model → PartShape → List CellName
by_rounds model shape = ascending (cmp_by_round model shape) (assigned_names shape)

-- the measures of the assignments at these places
abbrev pub name_at : List Assignment → ℕ → Option CellName
name_at assigned place = option_map name_assigned (slice_get assigned place)

abbrev pub names_at : List Assignment → List ℕ → List CellName
names_at assigned places = filter_map (name_at assigned) places

-- .. round by round
abbrev pub names_in : List Assignment → List (List ℕ) → List CellName
names_in assigned rounds = flat_map (names_at assigned) rounds

-- each place of these rounds is that of an assignment
abbrev pub AreWithin : List Assignment → List (List ℕ) → Type 0
AreWithin assigned rounds = All (λ round. All (λ place. place < length assigned) round) rounds

-- the measures that a derivation tells, in order
abbrev pub step_names : Model → PartShape → CellName → List CellName
step_names model shape target = given_sources model shape target ++ derived_sources model shape target
