-- EXPLAIN CELL: the view and its order, how many values there are, the measure, and then value by value.
use Rattle.std.specs.Prelude.{ℕ, List, length, Bool, not, ◌&&◌, ◌==◌, Option, Result, Ok, position, slice_get}
use Rattle.std.specs.Option.{ok_or, option_map}
use Rattle.mq_values.specs.declared.faults.Refused.{Refused}
use Rattle.mq_values.specs.declared.value.Kind.{Kind}
use Rattle.mq_ast.specs.declared.expressions.E.{E}
use Rattle.mq_ir.specs.declared.catalog.Catalog.{Catalog}
use Rattle.mq_ir.specs.declared.expression.Expr.{Expr}
use Rattle.mq_ir.specs.declared.query.ModelPart.{ModelPart}
use Rattle.mq_ir.specs.declared.statement.CellAsked.{CellAsked}
use Rattle.mq_ir.specs.Names.{model_of}
use Rattle.mq_ir.specs.Results.{◌>>=◌}
use Rattle.mq_ir.specs.Tables.{is_name}
use Rattle.mq_bind_scopes.specs.declared.kinds.ExprKind.{ExprKind}
use Rattle.mq_bind_scopes.specs.declared.misuse_numbers.TheConstants.{MISUSE_OF_EXPLAINED_VIEW, MISUSE_OF_VALUE_COUNT}
use Rattle.mq_bind_scopes.specs.declared.scopes.Found.{Found}
use Rattle.mq_bind_scopes.specs.declared.scopes.Part.TheVariants as part
use Rattle.mq_binder.specs.ChangeWalk.{no_columns}
use Rattle.mq_bind_expr.specs.ExpressionWalk.{bound}
use Rattle.mq_bind_scopes.specs.Kinds.{of_column}
use Rattle.mq_bind_scopes.specs.Names.{Name}
use Rattle.mq_bind_expr.specs.PlaceTests.{fits_dimension}
use Rattle.mq_bind_scopes.specs.Positions.{standing}
use Rattle.mq_bind_scopes.specs.Refusals.{kind_mismatch, misuse, refused_where, unknown_name}
use Rattle.mq_binder.specs.ScenarioWalk.{known_view}
use Rattle.mq_bind_expr.specs.Steps.{each_from}

-- the kind of the place of a number, among places of these kinds
abbrev pub kind_of_place : List Kind → ℕ → Option ExprKind
kind_of_place kinds n = option_map of_column (slice_get kinds n)

-- A value at its place: its expression, in which no column is known, and then the kind rule of an index.
abbrev pub index_checked : List Kind → ℕ → Found → Result Expr Refused
index_checked kinds n f = refused_where (not (fits_dimension (kind_of_place kinds n) f.kind)) kind_mismatch (Ok f.e)

abbrev pub value_bound : List Kind → ℕ → E → Result Expr Refused
value_bound kinds n e = bound no_columns e (standing part.Row) >>= index_checked kinds n

abbrev pub values_bound : List Kind → List E → Result (List Expr) Refused
values_bound kinds es = each_from (value_bound kinds) 0 es

-- the measure of a name
abbrev pub measure_called : ModelPart → Name → Result ℕ Refused
measure_called model name = ok_or (position (is_name name) model.names) (unknown_name name)

-- a value for each partition column, and one for each dimension
abbrev pub has_values : ModelPart → List E → List E → Bool
has_values model part cell = (length part == length model.part_kinds) && (length cell == length model.dims)

-- the measure, then the values of the partition columns, then those of the dimensions
abbrev pub measure_and_values : Name → Name → List E → List E → ModelPart → Result CellAsked Refused
measure_and_values view measure part cell model =
    measure_called model measure >>= (λ n.
    values_bound model.part_kinds part >>= (λ partition.
    values_bound model.dims cell >>= (λ place. Ok (record { view = view; measure = n; part = partition; cell = place }))))

-- a cell of a view with MODEL
abbrev pub cell_of_model : Name → Name → List E → List E → ModelPart → Result CellAsked Refused
cell_of_model view measure part cell model =
    refused_where (not model.auto) (misuse MISUSE_OF_EXPLAINED_VIEW) (
    refused_where (not (has_values model part cell)) (misuse MISUSE_OF_VALUE_COUNT) (measure_and_values view measure part cell model))

-- A view without MODEL is not in AUTOMATIC ORDER either.
abbrev pub cell_bound : Catalog → Name → Name → List E → List E → Result CellAsked Refused
cell_bound catalog view measure part cell =
    known_view catalog view (ok_or (model_of catalog view) (misuse MISUSE_OF_EXPLAINED_VIEW) >>= cell_of_model view measure part cell)
