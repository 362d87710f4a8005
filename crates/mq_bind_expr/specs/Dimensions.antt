-- Where a bound condition names the dimension under test: the dimension is bound as a column, and in a rule nothing else is.
use Rattle.std.specs.Prelude.{Bool, true, false, ◌||◌}
use Rattle.mq_ir.specs.declared.expression.BoundArm.{BoundArm}
use Rattle.mq_ir.specs.declared.expression.BoundProd.{BoundProd}
use Rattle.mq_ir.specs.declared.expression.BoundSum.{BoundSum}
use Rattle.mq_ir.specs.declared.expression.Expr.{Expr, out-Expr, para-Expr}
use Rattle.mq_ir.specs.declared.expression.Expr.TheOpen as layer
use Rattle.mq_ir.specs.declared.expression.Leaf.{Leaf, out-Leaf}
use Rattle.mq_ir.specs.declared.expression.Test.{Test}
use Rattle.mq_bind_expr.specs.Forms.{any_has, has_if_any}

abbrev pub is_column_leaf : Leaf → Bool
is_column_leaf l = elim (out-Leaf l) [ layer.Column item column ↦ true | _ ↦ false ]

abbrev pub is_dimension : Expr → Bool
is_dimension e = elim (out-Expr e) [ layer.Leaf l ↦ is_column_leaf l | _ ↦ false ]

-- anywhere in it; inside a leaf there are no columns
abbrev pub layer_names :
    layer.Expr-F (Expr × Bool) (Leaf × Unit {0}) (Test × Unit {0}) (BoundArm × Bool) (BoundProd × Bool) (BoundSum × Bool) → Bool
layer_names (layer.«Expr::Or» es) = any_has es
layer_names (layer.«Expr::And» es) = any_has es
layer_names (layer.«Expr::Not» a) = a.1
layer_names (layer.«Expr::Cmp» a op b) = a.1 || b.1
layer_names (layer.«Expr::Between» a negated low high) = a.1 || low.1 || high.1
layer_names (layer.InList a negated es) = a.1 || any_has es
layer_names (layer.IsNull a negated) = a.1
layer_names (layer.IsPresent l negated) = false
layer_names (layer.Sum first terms) = first.1 || any_has terms
layer_names (layer.Prod first terms) = first.1 || any_has terms
layer_names (layer.Neg a) = a.1
layer_names (layer.Lit v) = false
layer_names (layer.Leaf l) = is_column_leaf l.0
layer_names (layer.Case of arms or_else) = has_if_any of || any_has arms || has_if_any or_else
layer_names (layer.Cast a k) = a.1
layer_names (layer.Convert a k) = a.1
layer_names (layer.Call f es) = any_has es
layer_names (layer.PresentV present then otherwise) = then.1 || otherwise.1
layer_names (layer.PresentNnv present not_null then otherwise) = then.1 || otherwise.1

unfoldable pub names_dimension : Expr → Bool
names_dimension =
    para-Expr Bool (Unit {0}) (Unit {0}) Bool Bool Bool
    layer_names (λ _. tt) (λ _. tt) (λ arm. arm.test.1 || arm.value.1) (λ term. term.e.1) (λ term. term.e.1)
