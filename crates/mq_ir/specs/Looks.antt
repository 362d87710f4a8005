-- What the right side of a rule looks at.
use Rattle.std.specs.Prelude.{ℕ, List, [], ◌∷◌, ◌++◌, Option, Result, Ok, Err, map}
use Rattle.std.specs.List.{flat_map}
use Rattle.std.specs.Option.{option_map_or}
use Rattle.mq_values.specs.declared.faults.ValueFault.{ValueFault}
use Rattle.mq_ir.specs.declared.expression.Expr.{Expr, para-Expr}
use Rattle.mq_ir.specs.declared.expression.Expr.TheOpen as layer
use Rattle.mq_ir.specs.declared.expression.BoundSum.{BoundSum}
use Rattle.mq_ir.specs.declared.expression.BoundProd.{BoundProd}
use Rattle.mq_ir.specs.declared.expression.BoundArm.{BoundArm}
use Rattle.mq_ir.specs.declared.expression.Leaf.{Leaf, out-Leaf}
use Rattle.mq_ir.specs.declared.expression.Test.{Test}
use Rattle.mq_ir.specs.declared.query.Look.{Look}
use Rattle.mq_ir.specs.declared.query.Look.TheVariants.{Measure, Presence}
use Rattle.mq_ir.specs.Partitions.{Tuple}
use Rattle.mq_ir.specs.Reads.{LeafLayer, Site, cell_named, range_named}

-- the leaves of an expression
abbrev pub Leaves : Type 0
Leaves = List Leaf

-- parts of an expression, each beside its leaves
abbrev pub all_leaves : {A : Type 0} → List (A × Leaves) → Leaves
all_leaves parts = flat_map (λ part. part.1) parts

abbrev pub leaves_if_any : {A : Type 0} → Option (A × Leaves) → Leaves
leaves_if_any part = option_map_or (λ p. p.1) part []

-- one layer of an expression: its leaves from left to right, those of untaken branches included
abbrev pub layer_leaves :
    layer.Expr-F (Expr × Leaves) (Leaf × Unit {0}) (Test × Unit {0}) (BoundArm × Leaves) (BoundProd × Leaves) (BoundSum × Leaves) → Leaves
layer_leaves (layer.«Expr::Or» es) = all_leaves es
layer_leaves (layer.«Expr::And» es) = all_leaves es
layer_leaves (layer.«Expr::Not» e) = e.1
layer_leaves (layer.«Expr::Cmp» a op b) = a.1 ++ b.1
layer_leaves (layer.«Expr::Between» e negated a b) = e.1 ++ a.1 ++ b.1
layer_leaves (layer.InList e negated es) = e.1 ++ all_leaves es
layer_leaves (layer.IsNull e negated) = e.1
layer_leaves (layer.IsPresent l negated) = l.0 ∷ []
layer_leaves (layer.Sum first terms) = first.1 ++ all_leaves terms
layer_leaves (layer.Prod first terms) = first.1 ++ all_leaves terms
layer_leaves (layer.Neg e) = e.1
layer_leaves (layer.Lit v) = []
layer_leaves (layer.Leaf l) = l.0 ∷ []
layer_leaves (layer.Case of arms or_else) = leaves_if_any of ++ all_leaves arms ++ leaves_if_any or_else
layer_leaves (layer.Cast e k) = e.1
layer_leaves (layer.Convert e k) = e.1
layer_leaves (layer.Call f es) = all_leaves es
layer_leaves (layer.PresentV present then otherwise) = present.0 ∷ (then.1 ++ otherwise.1)
layer_leaves (layer.PresentNnv present not_null then otherwise) = present.0 ∷ not_null.0 ∷ (then.1 ++ otherwise.1)

unfoldable pub leaves_of : Expr → Leaves
leaves_of =
    para-Expr Leaves (Unit {0}) (Unit {0}) Leaves Leaves Leaves
    layer_leaves (λ _. tt) (λ _. tt) (λ arm. arm.test.1 ++ arm.value.1) (λ term. term.e.1) (λ term. term.e.1)

-- the measures of cells, as looks
abbrev pub looks_at : ℕ → List Tuple → List Look
looks_at m = map (λ key. Measure (record { key = key; measure = m }))

abbrev pub look_at : ℕ → Tuple → List Look
look_at m key = looks_at m (key ∷ [])

abbrev pub looks_named : {A : Type 0} → (A → List Look) → Result A ValueFault → List Look
looks_named looks (Ok name) = looks name
looks_named looks (Err fault) = []

-- what a leaf looks at; where one of its operands faults it names nothing
abbrev pub layer_looks : Site → LeafLayer → List Look
layer_looks site (layer.Cell m indices) = looks_named (look_at m) (cell_named site site.model.part.dims indices)
layer_looks site (layer.Range agg m places) = looks_named (looks_at m) (range_named site places)
layer_looks site (layer.Present indices) = looks_named (λ key. Presence key ∷ []) (cell_named site site.model.part.dims indices)
layer_looks site (layer.NotNull m indices) = looks_named (look_at m) (cell_named site site.model.part.dims indices)
layer_looks site _ = []

abbrev pub leaf_looks : Site → Leaf → List Look
leaf_looks site l = layer_looks site (out-Leaf l)

-- the looks of a right side, in the order of its references
abbrev pub looks_of : Site → Expr → List Look
looks_of site e = flat_map (leaf_looks site) (leaves_of e)
