-- Where the value of a measure of a cell comes from, in automatic order, and when such a list of steps is accepted.
use Rattle.std.specs.Prelude.{◌≡◌, ⊤, ℕ, ◌+◌, List, [], ◌∷◌, ◌++◌, map, Bool, true, ◌&&◌, ◌==◌, Option, Some, None, is_none, unwrap_or}
use Rattle.std.specs.BTreeSet.{insert_key}
use Rattle.std.specs.List.{filter, filter_map, find, flat_map, fold, list_all, list_any, range_with_len}
use Rattle.std.specs.Option.{option_map_or}
use Rattle.std.specs.Ordering.{nat_cmp, on, then_cmp}
use Rattle.std.specs.declared.cmp.Ordering.{Ordering}
use Rattle.mq_values.specs.Order.{cmp_key}
use Rattle.mq_ir.specs.declared.query.CellName.{CellName}
use Rattle.mq_ir.specs.declared.query.DerivationStep.{DerivationStep}
use Rattle.mq_ir.specs.declared.query.Look.{Look}
use Rattle.mq_ir.specs.declared.query.Look.TheVariants.{Measure, Presence}
use Rattle.mq_ir.specs.declared.query.PartShape.{PartShape}
use Rattle.mq_ir.specs.declared.query.Slot.{Slot}
use Rattle.mq_ir.specs.declared.query.Slot.TheVariants.{Done, Poisoned}
use Rattle.mq_ir.specs.Affected.{is_same_look, looks_or_none}
use Rattle.mq_ir.specs.Automatic.{node_looks, node_of, node_step, round_count, rule_at, slots_in}
use Rattle.mq_ir.specs.Keys.{is_same}
use Rattle.mq_ir.specs.Partitions.{Cells, ascending}
use Rattle.mq_ir.specs.Reads.{measure_at}
use Rattle.mq_ir.specs.Rounds.{affected, levelled}
use Rattle.mq_ir.specs.Unfolding.{Model}

-- measures of cells by cell, then measure
abbrev pub cmp_name : CellName → CellName → Ordering
cmp_name = then_cmp (on (λ c. c.key) cmp_key) (on (λ c. c.measure) nat_cmp)

abbrev pub is_same_measure : CellName → CellName → Bool
is_same_measure a b = is_same a.key b.key && (a.measure == b.measure)

-- the measures among looks
abbrev pub measure_of : Look → Option CellName
measure_of (Measure c) = Some c
measure_of (Presence key) = None

abbrev pub measures_looked_at : Model → PartShape → CellName → List CellName
measures_looked_at model shape c = filter_map measure_of (looks_or_none (node_looks model shape (Measure c)))

-- the assigned measures that look at a node
abbrev pub lookers : Model → PartShape → Look → List Look
lookers model shape node =
    filter (λ user. list_any (is_same_look node) (looks_or_none (node_looks model shape user))) (map node_of shape.assigned)

-- What a measure of a cell, the target, comes from: the least set that has it and, with each assigned measure, all that it looks at.
abbrev pub is_source : Model → PartShape → CellName → CellName → Bool
is_source model shape target c =
    affected (λ node. Some (lookers model shape node)) (is_same_look (Measure target)) (round_count shape) (Measure c)

abbrev pub assigned_names : PartShape → List CellName
assigned_names shape = map (λ a. record { key = a.0; measure = a.1 }) shape.assigned

-- the sources that no rule assigns, ascending, each once
abbrev pub is_given : Model → PartShape → CellName → CellName → Bool
is_given model shape target c = is_none (rule_at shape (Measure c)) && is_source model shape target c

abbrev pub given_sources : Model → PartShape → CellName → List CellName
given_sources model shape target =
    let looked_at = flat_map (measures_looked_at model shape) (assigned_names shape) in
    fold (insert_key cmp_name) [] (filter (is_given model shape target) (target ∷ looked_at))

-- the first round in which a measure is levelled
abbrev pub round_of : Model → PartShape → CellName → ℕ
round_of model shape c =
    unwrap_or (find (λ n. levelled (node_looks model shape) n (Measure c)) (range_with_len 0 (round_count shape + 1))) 0

-- the sources that rules assign, by their rounds, and then ascending
abbrev pub derived_sources : Model → PartShape → CellName → List CellName
derived_sources model shape target =
    ascending (then_cmp (on (round_of model shape) nat_cmp) cmp_name) (filter (is_source model shape target) (assigned_names shape))

abbrev pub step_of : Model → PartShape → Cells → CellName → DerivationStep
step_of model shape input c = record { name = c; rule = rule_at shape (Measure c); slot = slots_in model shape input c }

-- the derivation of a measure of a cell: what it comes from, each with its rule and what stands there
abbrev pub derivation : Model → PartShape → Cells → CellName → List DerivationStep
derivation model shape input target =
    map (step_of model shape input) (given_sources model shape target ++ derived_sources model shape target)

-- ---- when steps are accepted

-- the slot at the last of these steps that is of this measure; latest first
abbrev pub slot_among : List DerivationStep → Look → Slot
slot_among earlier node = option_map_or (λ s. s.slot) (find (λ s. is_same_look node (Measure s.name)) earlier) Poisoned

abbrev pub is_among_steps : List DerivationStep → CellName → Bool
is_among_steps earlier c = list_any (λ s. is_same_measure c s.name) earlier

-- a step without a rule is not assigned, and has the value of the input, null where the input does not have the cell
abbrev pub IsGiven : PartShape → Cells → DerivationStep → Type 0
IsGiven shape input step = (rule_at shape (Measure step.name) ≡ None) × (step.slot ≡ Done (measure_at input step.name))

-- a step with a rule is assigned by it, looks at measures of earlier steps alone, and has what the rule makes of their slots
abbrev pub IsDerived : Model → PartShape → List DerivationStep → DerivationStep → ℕ → Type 0
IsDerived model shape earlier step rule =
    (rule_at shape (Measure step.name) ≡ Some rule)
    × (list_all (is_among_steps earlier) (measures_looked_at model shape step.name) ≡ true)
    × (step.slot ≡ node_step model shape (Measure step.name) (slot_among earlier))

abbrev pub IsAccepted : Model → PartShape → Cells → List DerivationStep → DerivationStep → Type 0
IsAccepted model shape input earlier step =
    elim step.rule [ None ↦ IsGiven shape input step | Some rule ↦ IsDerived model shape earlier step rule ]

-- steps behind these earlier ones, latest first
abbrev pub AreAccepted : Model → PartShape → Cells → List DerivationStep → List DerivationStep → Type 0
AreAccepted model shape input earlier [] = ⊤
AreAccepted model shape input earlier (step ∷ steps) =
    IsAccepted model shape input earlier step × AreAccepted model shape input (step ∷ earlier) steps
