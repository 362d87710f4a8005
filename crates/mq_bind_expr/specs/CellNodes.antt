-- Aggregates, and the cells and ranges of rules and UNTIL, from what their parts are bound to.
use Rattle.std.specs.Prelude.{ℕ, List, [], length, Bool, not, if◌then◌else◌, Option, Some, None, Result, Ok, Err, slice_get, unwrap_or}
use Rattle.std.specs.Option.{option_map_or}
use Rattle.mq_lexer.specs.Words.{folded}
use Rattle.mq_values.specs.declared.faults.Refused.{Refused}
use Rattle.mq_values.specs.declared.operators.Agg.{Agg}
use Rattle.mq_values.specs.declared.operators.Agg.TheVariants as agg
use Rattle.mq_ast.specs.declared.expressions.Path.{Path}
use Rattle.mq_ir.specs.declared.expression.Expr.{Expr}
use Rattle.mq_ir.specs.declared.expression.Expr.TheVariants as expr
use Rattle.mq_ir.specs.declared.expression.Leaf.{Leaf}
use Rattle.mq_ir.specs.declared.expression.Leaf.TheVariants as leaf
use Rattle.mq_ir.specs.declared.expression.Test.{Test}
use Rattle.mq_ir.specs.Results.{◌>>=◌}
use Rattle.mq_bind_scopes.specs.declared.kinds.ExprKind.{ExprKind}
use Rattle.mq_bind_scopes.specs.declared.kinds.ExprKind.TheVariants as kind
use Rattle.mq_bind_scopes.specs.declared.misuse_numbers.TheConstants.{MISUSE_OF_AGGREGATE, MISUSE_OF_PLACE_COUNT, MISUSE_OF_REFERENCE_MEASURE, MISUSE_OF_RULE_FORM}
use Rattle.mq_bind_scopes.specs.declared.scopes.Found.{Found}
use Rattle.mq_bind_scopes.specs.declared.scopes.Named.{Named}
use Rattle.mq_bind_scopes.specs.declared.scopes.Owner.{Owner}
use Rattle.mq_bind_scopes.specs.declared.scopes.Owner.TheVariants as owner
use Rattle.mq_bind_scopes.specs.declared.scopes.Position.{Position}
use Rattle.mq_bind_scopes.specs.declared.scopes.Scope.{Scope}
use Rattle.mq_bind_scopes.specs.OperatorKinds.{aggregate_kind}
use Rattle.mq_bind_scopes.specs.Misuses.{aggregate_without_group, cell_out_of_place, other_place_count, outside_rules}
use Rattle.mq_bind_expr.specs.NameNodes.{Walked, a_value}
use Rattle.mq_bind_scopes.specs.Names.{Name, called, found_called, is_reference_measure}
use Rattle.mq_bind_scopes.specs.Refusals.{misuse, refused_where, unknown_name}

-- an aggregate of rows
abbrev pub agg_node : Position → Agg → Found → Walked
agg_node at f a =
    aggregate_kind f a.kind >>= (λ k.
    refused_where (aggregate_without_group at) (misuse MISUSE_OF_AGGREGATE) (Ok (a_value (expr.Leaf (leaf.GroupAgg f (Some a.e))) k)))

abbrev pub count_all_node : Position → Walked
count_all_node at =
    refused_where (aggregate_without_group at) (misuse MISUSE_OF_AGGREGATE) (
    Ok (a_value (expr.Leaf (leaf.GroupAgg agg.Count None)) (kind.Number 0)))

-- a form of rules out of its place
abbrev pub unless_rule_form : {A : Type 0} → Bool → Result A Refused → Result A Refused
unless_rule_form test next = refused_where test (misuse MISUSE_OF_RULE_FORM) next

-- The cell that a path and its indices name: a measure of the main model, or with two parts a reference and its measure.
abbrev pub measures_of : Scope → ℕ → List Named
measures_of scope n = option_map_or (λ r. r.measures) (slice_get scope.model.refs n) []

abbrev pub first_name : Path → Name
first_name path = option_map_or folded path.first []

abbrev pub cell_called : Scope → Path → Owner → List Expr → Result (Leaf × ExprKind) Refused
cell_called scope path owner.Main indices = called (folded path.last) scope.model.measures >>= (λ m. Ok (leaf.Cell m.0 indices, m.1))
cell_called scope path (owner.Reference n) indices =
    called (folded path.last) (measures_of scope n) >>= (λ m. Ok (leaf.RefCell n m.0 indices, m.1))
cell_called scope path owner.Nothing indices = Err (unknown_name (first_name path))

-- the misuse of a cell or a range with this many places, where it is one
abbrev pub cell_misuse : Scope → Position → Owner → ℕ → Option ℕ
cell_misuse scope at o count =
    if cell_out_of_place at then Some MISUSE_OF_RULE_FORM
    else if other_place_count scope o count then Some MISUSE_OF_PLACE_COUNT else None

abbrev pub unless_misuse : {A : Type 0} → Option ℕ → Result A Refused → Result A Refused
unless_misuse (Some number) next = Err (misuse number)
unless_misuse None next = next

abbrev pub cell_node : Scope → Position → Path → Owner → List Expr → Walked
cell_node scope at path o indices =
    unless_rule_form (outside_rules at) (
    cell_called scope path o indices >>= (λ cell.
    unless_misuse (cell_misuse scope at o (length indices)) (Ok (a_value (expr.Leaf cell.0) cell.1))))

-- an aggregate of cells: of a measure of the main model, never of one of a reference
abbrev pub range_over : Scope → Position → Agg → List Test → ℕ → ExprKind → Walked
range_over scope at f tests m kind =
    aggregate_kind f kind >>= (λ k.
    unless_misuse (cell_misuse scope at owner.Main (length tests)) (Ok (a_value (expr.Leaf (leaf.Range f m tests)) k)))

abbrev pub range_elsewhere : Scope → Position → Name → ℕ → Walked
range_elsewhere scope at name count =
    refused_where (not (is_reference_measure name scope.model.refs)) (unknown_name name) (
    Err (misuse (unwrap_or (cell_misuse scope at owner.Main count) MISUSE_OF_REFERENCE_MEASURE)))

abbrev pub range_of : Scope → Position → Agg → Name → List Test → Option (ℕ × ExprKind) → Walked
range_of scope at f name tests (Some m) = range_over scope at f tests m.0 m.1
range_of scope at f name tests None = range_elsewhere scope at name (length tests)

abbrev pub range_node : Scope → Position → Agg → Name → List Test → Walked
range_node scope at f name tests =
    unless_rule_form (outside_rules at) (range_of scope at f (folded name) tests (found_called (folded name) scope.model.measures))
