-- What sees no set of cells is the same over every set.
use Rattle.std.proofs.Common.{◌≡◌, ℕ, List, [], length, take, drop, slice_get, slice_index_or, map, Result, Ok, refl, ap, sym, ◌∙◌}
use Rattle.std.specs.List.{filter, zip}
use Rattle.std.specs.Option.{option_map_or}
use Rattle.mq_values.specs.Aggregate.{aggregate, is_value}
use Rattle.mq_values.specs.declared.faults.ValueFault.{ValueFault}
use Rattle.mq_values.specs.declared.operators.Agg.{Agg}
use Rattle.mq_values.specs.declared.operators.DimTest.{DimTest}
use Rattle.mq_values.specs.declared.value.Kind.{Kind}
use Rattle.mq_values.specs.declared.value.Kind.TheVariants as kind
use Rattle.mq_values.specs.declared.value.Value.TheVariants as value
use Rattle.mq_ir.specs.declared.expression.Expr.{Expr}
use Rattle.mq_ir.specs.declared.expression.Expr.TheOpen as layer
use Rattle.mq_ir.specs.declared.expression.Leaf.{Leaf, out-Leaf}
use Rattle.mq_ir.specs.declared.expression.Test.{Test}
use Rattle.mq_ir.specs.declared.query.RefPart.{RefPart}
use Rattle.mq_ir.specs.Expression.{Outcome, flag}
use Rattle.mq_ir.specs.Keys.{Tuple, is_among}
use Rattle.mq_ir.specs.Nav.{with_nav}
use Rattle.mq_ir.specs.Reads.{LeafLayer, Measures, cell_named, cell_value, inner_layer, inner_leaves, measure_at, measure_kind, not_null, presence, range_value, reference_cell}
use Rattle.mq_ir.specs.Results.{◌>>=◌, each}
use Rattle.mq_ir.specs.Targets.{meets_every}
use Rattle.mq_ir.specs.Tests.{converted, test_of}
use Rattle.mq_ir.specs.Unfolding.{model_of}
use Rattle.mq_refs.specs.Sites.{site_of, site_over, tests_named}
use Rattle.mq_refs.specs.declared.standpoint.Standpoint.{Standpoint}

module _ (at : Standpoint) (set : List Tuple) where
  same_layer : (l : LeafLayer) → inner_layer (site_of at) l ≡ inner_layer (site_over at set) l
  same_layer (layer.Column item column) = refl
  same_layer (layer.Cell m indices) = refl
  same_layer (layer.Range agg m places) = refl
  same_layer (layer.RefCell r m indices) = refl
  same_layer (layer.Cv d) = refl
  same_layer layer.Turn = refl
  same_layer (layer.Present indices) = refl
  same_layer (layer.NotNull m indices) = refl
  same_layer (layer.GroupAgg agg e) = refl
  same_layer (layer.Previous m indices) = refl

  same_inner : inner_leaves (site_of at) ≡ inner_leaves (site_over at set)
  same_inner = λ i l. same_layer (out-Leaf l) i

  pub named_over : (kinds : List Kind) (indices : List Expr) → cell_named (site_of at) kinds indices ≡ cell_named (site_over at set) kinds indices
  named_over kinds indices = ap (λ (leaves : Leaf → Outcome). each (λ (kind, e). converted leaves kind e) (zip kinds indices)) same_inner

  tests_over : (kinds : List Kind) (places : List Test) → tests_named (site_of at) kinds places ≡ tests_named (site_over at set) kinds places
  tests_over kinds places = ap (λ (leaves : Leaf → Outcome). each (λ (kind, place). test_of leaves kind place) (zip kinds places)) same_inner

  -- what a single cell is worth to a leaf
  worth_over : (f : Tuple → Outcome) (kinds : List Kind) (indices : List Expr) →
      (cell_named (site_of at) kinds indices >>= f) ≡ (cell_named (site_over at set) kinds indices >>= f)
  worth_over f kinds indices = ap (λ (r : Result Tuple ValueFault). r >>= f) (named_over kinds indices)

  -- the leaves that name a single cell
  pub cell_over : (now : Measures) (m : ℕ) (indices : List Expr) → cell_value (site_of at) now m indices ≡ cell_value (site_over at set) now m indices
  cell_over now m indices =
      worth_over (λ key. Ok (with_nav at.model.now.part.now.ignore_nav (measure_kind (model_of at.model.now) m) (now (record { key = key; measure = m }))))
      at.model.now.part.now.dims indices

  pub not_null_over : (now : Measures) (m : ℕ) (indices : List Expr) → not_null (site_of at) now m indices ≡ not_null (site_over at set) now m indices
  not_null_over now m indices = worth_over (λ key. Ok (flag (is_value (now (record { key = key; measure = m }))))) at.model.now.part.now.dims indices

  pub presence_over : (base : List Tuple) (indices : List Expr) → presence (site_of at) base indices ≡ presence (site_over at set) base indices
  presence_over base indices = worth_over (λ key. Ok (flag (is_among base key))) at.model.now.part.now.dims indices

  pub reference_over : (r m : ℕ) (indices : List Expr) → reference_cell (site_of at) r m indices ≡ reference_cell (site_over at set) r m indices
  reference_over r m indices =
      ap (λ (f : RefPart → Outcome). option_map_or f (slice_get at.model.now.part.now.refs r) (Ok value.Null))
      (λ i part. worth_over (λ key. Ok (with_nav part.ignore_nav (slice_index_or (drop (length part.dims) part.kinds) m kind.Int)
      (measure_at (slice_index_or (model_of at.model.now).refs r []) (record { key = key; measure = m })))) (take (length part.dims) part.kinds) indices i)

  -- an aggregate over the cells of a range
  pub range_over : (now : Measures) (agg : Agg) (m : ℕ) (places : List Test) (tests : List DimTest) → tests_named (site_of at) at.model.now.part.now.dims places ≡ Ok tests →
      aggregate agg (map (λ key. now (record { key = key; measure = m })) (filter (meets_every tests) set)) ≡ range_value (site_over at set) now agg m places
  range_over now agg m places tests named =
      ap (λ (r : Result (List DimTest) ValueFault).
      (r >>= (λ ts. Ok (filter (meets_every ts) set))) >>= (λ keys. aggregate agg (map (λ key. now (record { key = key; measure = m })) keys)))
      (sym named ∙ tests_over at.model.now.part.now.dims places)
