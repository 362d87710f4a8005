-- Where an expression stands, and what stands around it.
use Rattle.std.specs.Prelude.{ℕ, List, [], Bool, true, false, Option, Some, None, slice_get}
use Rattle.std.specs.Option.{option_map, option_map_or}
use Rattle.mq_ast.specs.declared.expressions.Path.{Path}
use Rattle.mq_lexer.specs.Words.{folded}
use Rattle.mq_bind_scopes.specs.declared.kinds.ExprKind.{ExprKind}
use Rattle.mq_bind_scopes.specs.declared.scopes.Named.{Named}
use Rattle.mq_bind_scopes.specs.declared.scopes.Owner.{Owner}
use Rattle.mq_bind_scopes.specs.declared.scopes.Owner.TheVariants as owner
use Rattle.mq_bind_scopes.specs.declared.scopes.Part.{Part}
use Rattle.mq_bind_scopes.specs.declared.scopes.Part.TheVariants as part
use Rattle.mq_bind_scopes.specs.declared.scopes.Position.{Position}
use Rattle.mq_bind_scopes.specs.declared.scopes.Scope.{Scope}
use Rattle.mq_bind_scopes.specs.Names.{reference_called}

-- an expression by itself, in a part of a statement
abbrev pub standing : Part → Position
standing p = record { part = p; last_item = None; in_aggregate = false; bracket = None; is_whole = false }

-- an ON condition, which sees the FROM items up to its own
abbrev pub standing_on : ℕ → Position
standing_on item = record { part = part.Row; last_item = Some item; in_aggregate = false; bracket = None; is_whole = false }

-- a part of an expression
abbrev pub inner : Position → Position
inner at = record { part = at.part; last_item = at.last_item; in_aggregate = at.in_aggregate; bracket = at.bracket; is_whole = false }

-- the operand of an aggregate
abbrev pub aggregated : Position → Position
aggregated at = record { part = at.part; last_item = at.last_item; in_aggregate = true; bracket = at.bracket; is_whole = false }

-- the whole of a place of a bracket in a rule
abbrev pub bracketed : Position → Owner → ℕ → Bool → Position
bracketed at owner place is_condition = record {
  part = at.part;
  last_item = at.last_item;
  in_aggregate = at.in_aggregate;
  bracket = Some (record { owner = owner; place = place; is_condition = is_condition });
  is_whole = true;
}

-- the parts of a statement
abbrev pub is_rule : Part → Bool
is_rule part.Left = true
is_rule part.Right = true
is_rule part.Until = true
is_rule _ = false

abbrev pub is_left : Part → Bool
is_left part.Left = true
is_left _ = false

abbrev pub is_until : Part → Bool
is_until part.Until = true
is_until _ = false

abbrev pub is_grouping : Part → Bool
is_grouping part.Item = true
is_grouping part.Shown = true
is_grouping _ = false

-- whose cells the bracket behind a path names
abbrev pub owner_called : Scope → Option (List ℕ) → Owner
owner_called scope None = owner.Main
owner_called scope (Some name) = option_map_or owner.Reference (reference_called (folded name) scope.model.refs) owner.Nothing

abbrev pub owner_of : Scope → Path → Owner
owner_of scope path = owner_called scope path.first

-- the dimensions of a bracket
abbrev pub dims_of : Scope → Owner → List Named
dims_of scope owner.Main = scope.model.dims
dims_of scope (owner.Reference n) = option_map_or (λ r. r.dims) (slice_get scope.model.refs n) []
dims_of scope owner.Nothing = []

-- the dimension of a place; a place behind the last dimension has none
abbrev pub dimension_at : Scope → Owner → ℕ → Option Named
dimension_at scope owner place = slice_get (dims_of scope owner) place

-- its kind
abbrev pub place_kind : Scope → Owner → ℕ → Option ExprKind
place_kind scope owner place = option_map (λ (d : Named). d.kind) (dimension_at scope owner place)
