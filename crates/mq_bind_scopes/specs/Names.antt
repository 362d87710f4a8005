-- What a name means. Names are compared in capital letters; those of a catalog and of a scope are in capital letters already.
use Rattle.std.specs.Prelude.{ℕ, List, filter, find, length, position, Bool, true, not, ◌&&◌, ◌==◌, nat_le, nat_lt, Option, Some, None, Result, Ok}
use Rattle.std.specs.List.{list_any}
use Rattle.std.specs.Option.{ok_or, option_and_then, option_map, option_map_or}
use Rattle.mq_lexer.specs.Words.{folded}
use Rattle.mq_values.specs.declared.faults.Refused.{Refused}
use Rattle.mq_ast.specs.declared.expressions.Path.{Path}
use Rattle.mq_ir.specs.declared.query.ColRef.{ColRef}
use Rattle.mq_ir.specs.Results.{◌>>=◌}
use Rattle.mq_ir.specs.Tables.{is_name}
use Rattle.mq_bind_scopes.specs.declared.kinds.ExprKind.{ExprKind}
use Rattle.mq_bind_scopes.specs.declared.scopes.Named.{Named}
use Rattle.mq_bind_scopes.specs.declared.scopes.Position.{Position}
use Rattle.mq_bind_scopes.specs.declared.scopes.ReferenceNames.{ReferenceNames}
use Rattle.mq_bind_scopes.specs.declared.scopes.RowColumn.{RowColumn}
use Rattle.mq_bind_scopes.specs.declared.scopes.Scope.{Scope}
use Rattle.mq_bind_scopes.specs.Refusals.{refused_where, unknown_name, duplicate_name}

abbrev pub Name : Type 0
Name = List ℕ

-- FROM items up to the last one in sight
abbrev pub is_in_sight : Position → ℕ → Bool
is_in_sight at item = option_map_or (λ last. nat_le item last) at.last_item true

-- the FROM item of an alias
abbrev pub item_seen : Position → ℕ → Name → Result ℕ Refused
item_seen at item alias = refused_where (not (is_in_sight at item)) (unknown_name alias) (Ok item)

abbrev pub item_called : Scope → Position → Name → Result ℕ Refused
item_called scope at alias = ok_or (position (is_name alias) scope.aliases) (unknown_name alias) >>= (λ item. item_seen at item alias)

-- a column of this name in this FROM item, or in any one in sight
abbrev pub is_of_item : Option ℕ → ℕ → Bool
is_of_item item of = option_map_or (λ n. of == n) item true

abbrev pub is_meant : Position → Option ℕ → Name → RowColumn → Bool
is_meant at item name c = is_name name c.name && is_of_item item c.at.item && is_in_sight at c.at.item

-- a column by its place, with its kind
abbrev pub Column : Type 0
Column = ColRef × ExprKind

-- the only one of these that is meant
abbrev pub sole : (RowColumn → Bool) → Name → List RowColumn → Result Column Refused
sole meant name cs =
    ok_or (find meant cs) (unknown_name name) >>= (λ c.
    refused_where (nat_lt 1 (length (filter meant cs))) (duplicate_name name) (Ok (c.at, c.kind)))

-- A path of two parts is an alias and a column of that FROM item; one of one part is a column of exactly one of them.
abbrev pub column_in : Scope → Position → Option Name → Name → Result Column Refused
column_in scope at None name = sole (is_meant at None name) name scope.columns
column_in scope at (Some alias) name =
    item_called scope at (folded alias) >>= (λ item. sole (is_meant at (Some item) name) name scope.columns)

abbrev pub column_named : Scope → Position → Path → Result Column Refused
column_named scope at path = column_in scope at path.first (folded path.last)

-- the number and the kind of the first of these of a name
abbrev pub is_called : Name → Named → Bool
is_called name c = is_name name c.name

abbrev pub found_called : Name → List Named → Option (ℕ × ExprKind)
found_called name cs =
    option_and_then (λ n. option_map (λ (c : Named). (n, c.kind)) (find (is_called name) cs)) (position (is_called name) cs)

abbrev pub called : Name → List Named → Result (ℕ × ExprKind) Refused
called name cs = ok_or (found_called name cs) (unknown_name name)

-- the number of the reference of a name
abbrev pub reference_called : Name → List ReferenceNames → Option ℕ
reference_called name = position (λ r. is_name name r.name)

-- some reference has a measure of this name
abbrev pub is_reference_measure : Name → List ReferenceNames → Bool
is_reference_measure name = list_any (λ r. list_any (is_called name) r.measures)
