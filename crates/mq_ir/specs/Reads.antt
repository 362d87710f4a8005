-- What the leaves of a right side are worth.
use Rattle.std.specs.Prelude.{ℕ, List, [], Result, Ok, map, slice_get, slice_index_or, length, take, drop}
use Rattle.std.specs.Option.{option_map_or}
use Rattle.std.specs.List.{filter, zip}
use Rattle.mq_values.specs.Aggregate.{aggregate, is_value}
use Rattle.mq_values.specs.Convert.{cast_of}
use Rattle.mq_values.specs.declared.faults.ValueFault.{ValueFault}
use Rattle.mq_values.specs.declared.operators.Agg.{Agg}
use Rattle.mq_values.specs.declared.value.Kind.{Kind}
use Rattle.mq_values.specs.declared.value.Kind.TheVariants as kind
use Rattle.mq_values.specs.declared.value.Value.{Value}
use Rattle.mq_values.specs.declared.value.Value.TheVariants as value
use Rattle.mq_ir.specs.declared.expression.BoundArm.{BoundArm}
use Rattle.mq_ir.specs.declared.expression.BoundProd.{BoundProd}
use Rattle.mq_ir.specs.declared.expression.BoundSum.{BoundSum}
use Rattle.mq_ir.specs.declared.expression.Expr.{Expr}
use Rattle.mq_ir.specs.declared.expression.Expr.TheOpen as layer
use Rattle.mq_ir.specs.declared.expression.Leaf.{Leaf, out-Leaf}
use Rattle.mq_ir.specs.declared.expression.Test.{Test}
use Rattle.mq_ir.specs.declared.query.CellName.{CellName}
use Rattle.mq_ir.specs.declared.query.RefPart.{RefPart}
use Rattle.mq_ir.specs.declared.query.Rule.{Rule}
use Rattle.mq_ir.specs.Expression.{Outcome, ev, flag, whole}
use Rattle.mq_ir.specs.Keys.{is_among}
use Rattle.mq_ir.specs.Nav.{with_nav}
use Rattle.mq_ir.specs.Partitions.{Tuple, Cells, cell_at}
use Rattle.mq_ir.specs.Results.{◌>>=◌, each}
use Rattle.mq_ir.specs.Targets.{meets_every}
use Rattle.mq_ir.specs.Unfolding.{Model, converted, test_of}

-- where a right side stands: its target, the turn, and the cells that are there
pub record Site : Type 0 where
  pub model : Model
  pub target : Tuple
  pub turn : ℕ
  pub set : List Tuple

-- the measures of cells; null where a cell is not there
abbrev pub Measures : Type 0
Measures = CellName → Value

-- a leaf, taken apart
abbrev pub LeafLayer : Type 0
LeafLayer = layer.Leaf-F Expr Leaf Test BoundArm BoundProd BoundSum

-- expressions inside a leaf know the target's dimensions and the turn alone; all else is null there
abbrev pub inner_layer : Site → LeafLayer → Outcome
inner_layer site (layer.Cv d) = Ok (slice_index_or site.target d value.Null)
inner_layer site layer.Turn = Ok (whole site.turn)
inner_layer site _ = Ok value.Null

abbrev pub inner_leaves : Site → Leaf → Outcome
inner_leaves site l = inner_layer site (out-Leaf l)

-- the tuple that the indices of a single cell name, each converted to its dimension's kind
abbrev pub cell_named : Site → List Kind → List Expr → Result Tuple ValueFault
cell_named site kinds indices = each (λ (kind, e). converted (inner_leaves site) kind e) (zip kinds indices)

-- the cells of the set that meet every place of a range
abbrev pub range_named : Site → List Test → Result (List Tuple) ValueFault
range_named site places =
    each (λ (kind, place). test_of (inner_leaves site) kind place) (zip site.model.part.dims places) >>= (λ tests.
    Ok (filter (meets_every tests) site.set))

abbrev pub measure_kind : Model → ℕ → Kind
measure_kind model m = slice_index_or model.part.measures m kind.Int

-- a single cell of the main model
abbrev pub cell_value : Site → Measures → ℕ → List Expr → Outcome
cell_value site now m indices =
    cell_named site site.model.part.dims indices >>= (λ key.
    Ok (with_nav site.model.part.ignore_nav (measure_kind site.model m) (now (record { key = key; measure = m }))))

-- a range: the cells that meet every place, ascending, without NAV
abbrev pub range_value : Site → Measures → Agg → ℕ → List Test → Outcome
range_value site now agg m places =
    range_named site places >>= (λ keys. aggregate agg (map (λ key. now (record { key = key; measure = m })) keys))

-- the measure of a cell; null where the cell is not there
abbrev pub measure_at : Cells → CellName → Value
measure_at cells c = option_map_or (λ measures. slice_index_or measures c.measure value.Null) (cell_at cells c.key) value.Null

-- a cell of a reference, with the NAV of that reference
abbrev pub reference_value : Site → RefPart → Cells → ℕ → List Expr → Outcome
reference_value site part cells m indices =
    let dims = length part.dims in
    cell_named site (take dims part.kinds) indices >>= (λ key.
    Ok (with_nav part.ignore_nav (slice_index_or (drop dims part.kinds) m kind.Int) (measure_at cells (record { key = key; measure = m }))))

abbrev pub reference_cell : Site → ℕ → ℕ → List Expr → Outcome
reference_cell site r m indices =
    option_map_or (λ part. reference_value site part (slice_index_or site.model.refs r []) m indices)
    (slice_get site.model.part.refs r) (Ok value.Null)

-- whether the cell is in the partition's input
abbrev pub presence : Site → List Tuple → List Expr → Outcome
presence site input indices = cell_named site site.model.part.dims indices >>= (λ key. Ok (flag (is_among input key)))

-- whether the cell's measure, read without NAV, is not null at this moment
abbrev pub not_null : Site → Measures → ℕ → List Expr → Outcome
not_null site now m indices =
    cell_named site site.model.part.dims indices >>= (λ key. Ok (flag (is_value (now (record { key = key; measure = m })))))

-- The leaves of a right side, over the keys of the input and the measures as they are at this moment.
-- What has no meaning there is null.
abbrev pub read_layer : Site → List Tuple → Measures → LeafLayer → Outcome
read_layer site input now (layer.Cell m indices) = cell_value site now m indices
read_layer site input now (layer.Range agg m places) = range_value site now agg m places
read_layer site input now (layer.RefCell r m indices) = reference_cell site r m indices
read_layer site input now (layer.Present indices) = presence site input indices
read_layer site input now (layer.NotNull m indices) = not_null site now m indices
read_layer site input now l = inner_layer site l

abbrev pub read : Site → List Tuple → Measures → Leaf → Outcome
read site input now l = read_layer site input now (out-Leaf l)

-- the leaves of UNTIL: these, and PREVIOUS over the measures as they were when the turn began
abbrev pub until_layer : Site → List Tuple → Measures → Measures → LeafLayer → Outcome
until_layer site input now before (layer.Previous m indices) = cell_value site before m indices
until_layer site input now before l = read_layer site input now l

abbrev pub read_until : Site → List Tuple → Measures → Measures → Leaf → Outcome
read_until site input now before l = until_layer site input now before (out-Leaf l)

-- what a rule assigns: its right side, converted to the kind of the measure
abbrev pub right_value : Site → List Tuple → Measures → Rule → Outcome
right_value site input now rule = ev (read site input now) rule.right >>= (λ v. cast_of v (measure_kind site.model rule.measure))
