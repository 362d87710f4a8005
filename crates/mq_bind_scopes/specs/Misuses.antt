-- The misuses that depend on where an expression stands, each as a test.
use Rattle.std.specs.Prelude.{ℕ, Bool, false, not, ◌&&◌, ◌||◌, ◌==◌, length, is_some}
use Rattle.std.specs.Option.{option_map_or}
use Rattle.mq_ir.specs.declared.query.ColRef.{ColRef}
use Rattle.mq_ir.specs.Items.{is_grouped}
use Rattle.mq_bind_scopes.specs.declared.scopes.Owner.{Owner}
use Rattle.mq_bind_scopes.specs.declared.scopes.Position.{Position}
use Rattle.mq_bind_scopes.specs.declared.scopes.Scope.{Scope}
use Rattle.mq_bind_scopes.specs.Positions.{dims_of, is_grouping, is_left, is_rule, is_until}

-- in a grouped query, a column outside an aggregate that GROUP BY does not name
abbrev pub is_ungrouped : Scope → Position → ColRef → Bool
is_ungrouped scope at c =
    is_grouping at.part && not at.in_aggregate && option_map_or (λ cols. not (is_grouped cols c.item c.column)) scope.group false

-- an aggregate inside an aggregate, or where no group is: ON, WHERE, a change, a list of a reference, a rule, UNTIL
abbrev pub aggregate_without_group : Position → Bool
aggregate_without_group at = at.in_aggregate || not (is_grouping at.part)

-- a form of rules outside rules and UNTIL
abbrev pub outside_rules : Position → Bool
outside_rules at = not (is_rule at.part)

-- a cell, a range or a presence form on a left side or inside brackets
abbrev pub cell_out_of_place : Position → Bool
cell_out_of_place at = is_left at.part || is_some at.bracket

-- CV on a left side or in UNTIL
abbrev pub cv_out_of_place : Position → Bool
cv_out_of_place at = is_left at.part || is_until at.part

-- ITERATION_NUMBER without ITERATE
abbrev pub turn_without_iterate : Scope → Position → Bool
turn_without_iterate scope at = not (is_rule at.part && scope.model.iterates)

-- PREVIOUS outside UNTIL
abbrev pub previous_outside_until : Position → Bool
previous_outside_until at = not (is_until at.part)

-- IS ANY that is not the whole of a place of a bracket
abbrev pub any_inside_place : Position → Bool
any_inside_place at = not at.is_whole

-- a bracket with another number of places than its dimensions
abbrev pub other_place_count : Scope → Owner → ℕ → Bool
other_place_count scope owner count = not (count == length (dims_of scope owner))

-- inside a place that is a condition
abbrev pub in_condition : Position → Bool
in_condition at = option_map_or (λ b. b.is_condition) at.bracket false
