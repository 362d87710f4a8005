-- A path without brackets, by the part of the statement that it stands in.
use Rattle.std.specs.Prelude.{ℕ, ◌&&◌, if◌then◌else◌, Option, Some, None, Result, Ok, Err}
use Rattle.std.specs.Option.{ok_or, option_and_then, option_map}
use Rattle.mq_lexer.specs.Words.{folded}
use Rattle.mq_values.specs.declared.faults.Refused.{Refused}
use Rattle.mq_ast.specs.declared.expressions.Path.{Path}
use Rattle.mq_ir.specs.declared.expression.Expr.{Expr}
use Rattle.mq_ir.specs.declared.expression.Expr.TheVariants as expr
use Rattle.mq_ir.specs.declared.expression.Leaf.TheVariants as leaf
use Rattle.mq_ir.specs.Results.{◌>>=◌}
use Rattle.mq_ir.specs.Tables.{is_name}
use Rattle.mq_bind_scopes.specs.declared.kinds.ExprKind.{ExprKind}
use Rattle.mq_bind_scopes.specs.declared.kinds.ExprKind.TheVariants as kind
use Rattle.mq_bind_scopes.specs.declared.misuse_numbers.TheConstants.{MISUSE_OF_CONDITION_IN_BRACKETS, MISUSE_OF_NAME_IN_RULE, MISUSE_OF_SHOWN_ITEM, MISUSE_OF_UNGROUPED_COLUMN}
use Rattle.mq_bind_scopes.specs.declared.scopes.Bracket.{Bracket}
use Rattle.mq_bind_scopes.specs.declared.scopes.Found.{Found}
use Rattle.mq_bind_scopes.specs.declared.scopes.Named.{Named}
use Rattle.mq_bind_scopes.specs.declared.scopes.Part.{Part}
use Rattle.mq_bind_scopes.specs.declared.scopes.Part.TheVariants as part
use Rattle.mq_bind_scopes.specs.declared.scopes.Position.{Position}
use Rattle.mq_bind_scopes.specs.declared.scopes.Scope.{Scope}
use Rattle.mq_bind_scopes.specs.Misuses.{in_condition, is_ungrouped}
use Rattle.mq_bind_scopes.specs.Names.{Name, called, column_named}
use Rattle.mq_bind_scopes.specs.Positions.{dimension_at, is_left}
use Rattle.mq_bind_scopes.specs.Refusals.{misuse, refused_where}

-- what a node is bound to, or the first offence at it or before it
abbrev pub Walked : Type 0
Walked = Result Found Refused

-- a value, and a condition
abbrev pub a_value : Expr → ExprKind → Found
a_value e k = record { e = e; kind = k; equated = None }

abbrev pub a_condition : Expr → Found
a_condition e = record { e = e; kind = kind.Condition; equated = None }

abbrev pub column_leaf : ℕ → ℕ → Expr
column_leaf item column = expr.Leaf (leaf.Column item column)

-- over a row: a column of the FROM items
abbrev pub name_in_row : Scope → Position → Path → Walked
name_in_row scope at path =
    column_named scope at path >>= (λ c.
    refused_where (is_ungrouped scope at c.0) (misuse MISUSE_OF_UNGROUPED_COLUMN) (Ok (a_value (column_leaf c.0.item c.0.column) c.1)))

-- In the SELECT list of a query with MODEL: one part names a model column, by its number. Two parts can only name what may not stand there.
abbrev pub name_shown : Scope → Position → Option Name → Path → Walked
name_shown scope at None path = called (folded path.last) scope.shown >>= (λ c. Ok (a_value (column_leaf 0 c.0) c.1))
name_shown scope at (Some alias) path =
    column_named scope at path >>= (λ c.
    refused_where (is_ungrouped scope at c.0) (misuse MISUSE_OF_UNGROUPED_COLUMN) (Err (misuse MISUSE_OF_SHOWN_ITEM)))

-- In a place that is a condition the plain name of its dimension stands for the dimension: it is bound as the column of that number of the
-- tuple under test.
abbrev pub kind_under : Name → Bracket → Named → Option ExprKind
kind_under name b d = if b.is_condition && is_name name d.name then Some d.kind else None

abbrev pub dimension_under : Scope → Option Name → Name → Bracket → Option ExprKind
dimension_under scope (Some alias) name b = None
dimension_under scope None name b = option_and_then (kind_under name b) (dimension_at scope b.owner b.place)

abbrev pub name_in_bracket : Scope → Path → Option Bracket → Option Found
name_in_bracket scope path None = None
name_in_bracket scope path (Some b) = option_map (a_value (column_leaf 0 b.place)) (dimension_under scope path.first (folded path.last) b)

-- in a rule and in UNTIL: any other name is a misuse
abbrev pub name_misuse : Position → ℕ
name_misuse at = if is_left at.part && in_condition at then MISUSE_OF_CONDITION_IN_BRACKETS else MISUSE_OF_NAME_IN_RULE

abbrev pub name_in_rule : Scope → Position → Path → Walked
name_in_rule scope at path = ok_or (name_in_bracket scope path at.bracket) (misuse (name_misuse at))

abbrev pub name_in : Part → Scope → Position → Path → Walked
name_in part.Row scope at path = name_in_row scope at path
name_in part.Item scope at path = name_in_row scope at path
name_in part.Shown scope at path = name_shown scope at path.first path
name_in _ scope at path = name_in_rule scope at path

abbrev pub name_node : Scope → Position → Path → Walked
name_node scope at path = name_in at.part scope at path
