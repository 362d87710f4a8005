-- Where the numbers in an expression are below the counts of what they number, and its lists have their widths.
use Rattle.std.specs.Prelude.{ℕ, List, length, Bool, true, false, ◌&&◌, ◌==◌, nat_lt, nat_le, Option, Some, None, slice_index_or}
use Rattle.std.specs.List.{list_all}
use Rattle.std.specs.Option.{option_map_or}
use Rattle.mq_values.specs.declared.operators.Func.{Func}
use Rattle.mq_values.specs.declared.operators.Func.TheVariants.{Abs, Floor, Length, Round, Nvl}
use Rattle.mq_values.specs.declared.value.Kind.{Kind}
use Rattle.mq_values.specs.declared.value.Kind.TheVariants as kind
use Rattle.mq_ir.specs.declared.expression.BoundArm.{BoundArm}
use Rattle.mq_ir.specs.declared.expression.BoundProd.{BoundProd}
use Rattle.mq_ir.specs.declared.expression.BoundSum.{BoundSum}
use Rattle.mq_ir.specs.declared.expression.Expr.{Expr, para-Expr}
use Rattle.mq_ir.specs.declared.expression.Expr.TheOpen as layer
use Rattle.mq_ir.specs.declared.expression.Leaf.{Leaf, out-Leaf}
use Rattle.mq_ir.specs.declared.expression.Test.{Test, para-Test}
use Rattle.mq_values.specs.declared.limits.TheConstants.{MAX_SCALE}
use Rattle.mq_ir.specs.Looks.{leaves_of}

-- what an expression may name: the columns of each FROM item, the dimensions and measures of the model, and those of each reference
pub record Scope : Type 0 where
  pub columns : List ℕ
  pub dims : ℕ
  pub measures : ℕ
  pub refs : List (ℕ × ℕ)

abbrev pub kind_fits : Kind → Bool
kind_fits kind.Int = true
kind_fits (kind.Decimal s) = nat_lt 0 s && nat_le s MAX_SCALE
kind_fits kind.Text = true
kind_fits kind.Date = true

abbrev pub call_fits : Func → ℕ → Bool
call_fits Abs n = n == 1
call_fits Floor n = n == 1
call_fits Length n = n == 1
call_fits (Round s) n = nat_le s MAX_SCALE && (n == 1)
call_fits Nvl n = n == 2

-- what may stand inside a leaf: columns, CV and the turn
abbrev pub is_inner : Leaf → Bool
is_inner l = elim (out-Leaf l) [ layer.Column item column ↦ true | layer.Cv d ↦ true | layer.Turn ↦ true | _ ↦ false ]

-- parts of an expression, each beside whether it fits
abbrev pub all_fit : {A : Type 0} → List (A × Bool) → Bool
all_fit = list_all (λ part. part.1)

abbrev pub fits_if_any : {A : Type 0} → Option (A × Bool) → Bool
fits_if_any part = option_map_or (λ p. p.1) part true

-- an expression inside a leaf
abbrev pub fits_inside : Expr × Bool → Bool
fits_inside e = e.1 && list_all is_inner (leaves_of e.0)

abbrev pub fit_inside : ℕ → List (Expr × Bool) → Bool
fit_inside width es = (length es == width) && list_all fits_inside es

abbrev pub ExprLayer : Type 0
ExprLayer = layer.Expr-F (Expr × Bool) (Leaf × Bool) (Test × Bool) (BoundArm × Bool) (BoundProd × Bool) (BoundSum × Bool)

abbrev pub LeafLayer : Type 0
LeafLayer = layer.Leaf-F (Expr × Bool) (Leaf × Bool) (Test × Bool) (BoundArm × Bool) (BoundProd × Bool) (BoundSum × Bool)

abbrev pub TestLayer : Type 0
TestLayer = layer.Test-F (Expr × Bool) (Leaf × Bool) (Test × Bool) (BoundArm × Bool) (BoundProd × Bool) (BoundSum × Bool)

abbrev pub layer_fits : ExprLayer → Bool
layer_fits (layer.«Expr::Or» es) = all_fit es
layer_fits (layer.«Expr::And» es) = all_fit es
layer_fits (layer.«Expr::Not» e) = e.1
layer_fits (layer.«Expr::Cmp» a op b) = a.1 && b.1
layer_fits (layer.«Expr::Between» e negated a b) = e.1 && a.1 && b.1
layer_fits (layer.InList e negated es) = e.1 && all_fit es
layer_fits (layer.IsNull e negated) = e.1
layer_fits (layer.IsPresent l negated) = l.1
layer_fits (layer.Sum first terms) = first.1 && all_fit terms
layer_fits (layer.Prod first terms) = first.1 && all_fit terms
layer_fits (layer.Neg e) = e.1
layer_fits (layer.Lit v) = true
layer_fits (layer.Leaf l) = l.1
layer_fits (layer.Case of arms or_else) = fits_if_any of && all_fit arms && fits_if_any or_else
layer_fits (layer.Cast e k) = e.1 && kind_fits k
layer_fits (layer.Convert e k) = e.1 && kind_fits k
layer_fits (layer.Call f es) = call_fits f (length es) && all_fit es
layer_fits (layer.PresentV present then otherwise) = present.1 && then.1 && otherwise.1
layer_fits (layer.PresentNnv present not_null then otherwise) = present.1 && not_null.1 && then.1 && otherwise.1

abbrev pub leaf_fits : Scope → LeafLayer → Bool
leaf_fits s (layer.Column item column) = nat_lt column (slice_index_or s.columns item 0)
leaf_fits s (layer.Cell m indices) = nat_lt m s.measures && fit_inside s.dims indices
leaf_fits s (layer.Range agg m places) = nat_lt m s.measures && (length places == s.dims) && all_fit places
leaf_fits s (layer.RefCell r m indices) =
    let widths = slice_index_or s.refs r (0, 0) in nat_lt m widths.1 && fit_inside widths.0 indices
leaf_fits s (layer.Cv d) = nat_lt d s.dims
leaf_fits s layer.Turn = true
leaf_fits s (layer.Present indices) = nat_lt 0 s.measures && fit_inside s.dims indices
leaf_fits s (layer.NotNull m indices) = nat_lt m s.measures && fit_inside s.dims indices
leaf_fits s (layer.GroupAgg agg None) = true
leaf_fits s (layer.GroupAgg agg (Some e)) = fits_inside e
leaf_fits s (layer.Previous m indices) = nat_lt m s.measures && fit_inside s.dims indices

abbrev pub test_layer_fits : TestLayer → Bool
test_layer_fits layer.Any = true
test_layer_fits (layer.At e) = fits_inside e
test_layer_fits (layer.«Test::Cmp» op e) = fits_inside e
test_layer_fits (layer.«Test::Between» a b) = fits_inside a && fits_inside b
test_layer_fits (layer.In es) = list_all fits_inside es
test_layer_fits layer.Null = true
test_layer_fits (layer.«Test::And» ts) = all_fit ts
test_layer_fits (layer.«Test::Or» ts) = all_fit ts
test_layer_fits (layer.«Test::Not» t) = t.1

unfoldable pub expression_fits : Scope → Expr → Bool
expression_fits s =
    para-Expr Bool Bool Bool Bool Bool Bool
    layer_fits (leaf_fits s) test_layer_fits (λ arm. arm.test.1 && arm.value.1) (λ term. term.e.1) (λ term. term.e.1)

unfoldable pub test_fits : Scope → Test → Bool
test_fits s =
    para-Test Bool Bool Bool Bool Bool Bool
    layer_fits (leaf_fits s) test_layer_fits (λ arm. arm.test.1 && arm.value.1) (λ term. term.e.1) (λ term. term.e.1)
