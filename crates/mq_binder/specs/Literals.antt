-- Expressions whose literals have no more digits behind the point than a number may have: so has each that a program reads.
use Rattle.std.specs.Prelude.{Bool, true, ◌&&◌, nat_le, Option}
use Rattle.std.specs.Option.{option_map_or}
use Rattle.mq_values.specs.declared.limits.TheConstants.{MAX_SCALE}
use Rattle.mq_ast.specs.declared.expressions.Arm.{Arm}
use Rattle.mq_ast.specs.declared.expressions.E.{E, para-E}
use Rattle.mq_ast.specs.declared.expressions.E.TheOpen as layer
use Rattle.mq_ast.specs.declared.expressions.Place.{Place}
use Rattle.mq_ast.specs.declared.expressions.ProdTerm.{ProdTerm}
use Rattle.mq_ast.specs.declared.expressions.SumTerm.{SumTerm}
use Rattle.mq_ir.specs.FitsExpression.{all_fit, fits_if_any}
use Rattle.mq_bind_scopes.specs.declared.kinds.ExprKind.{ExprKind}
use Rattle.mq_bind_scopes.specs.declared.kinds.ExprKind.TheVariants as kind
use Rattle.mq_bind_scopes.specs.Kinds.{value_kind}

-- a number has at most so many digits behind its point
abbrev pub is_within : ExprKind → Bool
is_within (kind.Number s) = nat_le s MAX_SCALE
is_within kind.Text = true
is_within kind.Date = true
is_within kind.Null = true
is_within kind.Condition = true

-- one layer of an expression, each part beside whether its literals fit
abbrev pub layer_literals : layer.E-F (E × Bool) (Place × Bool) (Arm × Bool) (ProdTerm × Bool) (SumTerm × Bool) → Bool
layer_literals (layer.Or es) = all_fit es
layer_literals (layer.And es) = all_fit es
layer_literals (layer.Not a) = a.1
layer_literals (layer.Cmp a op b) = a.1 && b.1
layer_literals (layer.Between a negated low high) = a.1 && low.1 && high.1
layer_literals (layer.InList a negated es) = a.1 && all_fit es
layer_literals (layer.IsNull a negated) = a.1
layer_literals (layer.IsPresent a negated) = a.1
layer_literals (layer.IsAny a) = a.1
layer_literals (layer.Sum first terms) = first.1 && all_fit terms
layer_literals (layer.Prod first terms) = first.1 && all_fit terms
layer_literals (layer.Neg a) = a.1
layer_literals (layer.Lit v) = is_within (value_kind v)
layer_literals (layer.Name path) = true
layer_literals (layer.Cell path places) = all_fit places
layer_literals (layer.Agg f a) = a.1
layer_literals layer.CountAll = true
layer_literals (layer.RangeAgg f name places) = all_fit places
layer_literals (layer.Case of arms or_else) = fits_if_any of && all_fit arms && fits_if_any or_else
layer_literals (layer.Cast a k) = a.1
layer_literals (layer.Call f es) = all_fit es
layer_literals (layer.Cv name) = true
layer_literals layer.Turn = true
layer_literals (layer.Previous a) = a.1
layer_literals (layer.PresentV es) = all_fit es
layer_literals (layer.PresentNnv es) = all_fit es

abbrev pub place_literals : layer.Place-F (E × Bool) (Place × Bool) (Arm × Bool) (ProdTerm × Bool) (SumTerm × Bool) → Bool
place_literals layer.Any = true
place_literals (layer.Expr e) = e.1

unfoldable pub literals_fit : E → Bool
literals_fit =
    para-E Bool Bool Bool Bool Bool
    layer_literals place_literals (λ arm. arm.test.1 && arm.value.1) (λ term. term.e.1) (λ term. term.e.1)

-- the literals of a part that may be left out
abbrev pub literals_if_any : Option E → Bool
literals_if_any e = option_map_or literals_fit e true
