-- Which assignments of a shape look at which, by their places.
use Rattle.std.specs.Prelude.{◌≡◌, ℕ, ◌-◌, Bool, true, false, List, [], Option, None, slice_get, slice_index_or}
use Rattle.std.specs.List.{All, filter_map, position_from}
use Rattle.std.specs.Option.{option_map_or}
use Rattle.mq_ir.specs.declared.query.Look.{Look}
use Rattle.mq_ir.specs.declared.query.Look.TheVariants.{Measure, Presence}
use Rattle.mq_ir.specs.declared.query.PartShape.{PartShape}
use Rattle.mq_ir.specs.declared.query.Rule.{Rule}
use Rattle.mq_ir.specs.Keys.{Tuple}
use Rattle.mq_ir.specs.Looks.{looks_of}
use Rattle.mq_ir.specs.Shape.{Assignment, assigns}
use Rattle.mq_ir.specs.Slots.{site_in}
use Rattle.mq_ir.specs.Unfolding.{Model}
use Rattle.mq_auto_shape.specs.Numbers.{Numbered, number_at}

-- the place at which a measure is assigned first
abbrev pub place_at : List Assignment → Tuple → ℕ → Option ℕ
place_at assigned key m = position_from (assigns m key) 0 assigned

-- numbers that are these places
abbrev pub PlacesAre : Numbered → List Assignment → Type 0
PlacesAre numbers assigned = (key : Tuple) (m : ℕ) → number_at numbers key m ≡ place_at assigned key m

-- the place of a look, where it is one of a measure that is assigned
abbrev pub place_looked : List Assignment → Look → Option ℕ
place_looked assigned (Measure c) = place_at assigned c.key c.measure
place_looked assigned (Presence key) = None

-- the number for a look
abbrev pub number_looked : Numbered → Look → Option ℕ
number_looked numbers (Measure c) = number_at numbers c.key c.measure
number_looked numbers (Presence key) = None

-- the rule of an assignment
abbrev pub rule_by : Model → Assignment → Option Rule
rule_by model a = slice_get model.part.rules (a.2 - 1)

-- what the rule of an assignment looks at
abbrev pub looks_by : Model → PartShape → Assignment → List Look
looks_by model shape a = option_map_or (λ rule. looks_of (site_in model shape 0 a.0) rule.right) (rule_by model a) []

-- the places of what it looks at
abbrev pub reads_of : Model → PartShape → Assignment → List ℕ
reads_of model shape a = filter_map (place_looked shape.assigned) (looks_by model shape a)

-- whether measures are wanted: each one that is assigned is
abbrev pub AreWanted : List Bool → List Assignment → Type 0
AreWanted wanted assigned = All (λ a. slice_index_or wanted a.1 false ≡ true) assigned
