-- What can be told of an expression by its tree alone.
use Rattle.std.specs.Prelude.{ℕ, List, Bool, true, false, ◌||◌, Option, Some, None}
use Rattle.std.specs.List.{list_any}
use Rattle.std.specs.Option.{option_map, option_map_or}
use Rattle.mq_lexer.specs.Words.{folded}
use Rattle.mq_ast.specs.declared.expressions.Arm.{Arm}
use Rattle.mq_ast.specs.declared.expressions.E.{E, out-E, para-E}
use Rattle.mq_ast.specs.declared.expressions.E.TheOpen as layer
use Rattle.mq_ast.specs.declared.expressions.Path.{Path}
use Rattle.mq_ast.specs.declared.expressions.Place.{Place}
use Rattle.mq_ast.specs.declared.expressions.ProdTerm.{ProdTerm}
use Rattle.mq_ast.specs.declared.expressions.SumTerm.{SumTerm}
use Rattle.mq_ast.specs.declared.queries.Sel.{Sel}

-- a condition, as a whole
abbrev pub is_condition : E → Bool
is_condition e = elim (out-E e) [
  | layer.Or es ↦ true
  | layer.And es ↦ true
  | layer.Not a ↦ true
  | layer.Cmp a op b ↦ true
  | layer.Between a negated low high ↦ true
  | layer.InList a negated es ↦ true
  | layer.IsNull a negated ↦ true
  | layer.IsPresent a negated ↦ true
  | layer.IsAny a ↦ true
  | _ ↦ false
]

-- IS ANY
abbrev pub is_any_form : E → Bool
is_any_form e = elim (out-E e) [ layer.IsAny a ↦ true | _ ↦ false ]

-- a path without brackets
abbrev pub plain_path : E → Option Path
plain_path e = elim (out-E e) [ layer.Name path ↦ Some path | _ ↦ None ]

-- the name of an item of a list: its alias, or that of a plain column
abbrev pub item_name : Option (List ℕ) → Option Path → Option (List ℕ)
item_name (Some alias) path = Some (folded alias)
item_name None path = option_map (λ (p : Path). folded p.last) path

abbrev pub name_of : Sel → Option (List ℕ)
name_of sel = item_name sel.alias (plain_path sel.e)

-- an aggregate of rows anywhere in it; an aggregate of cells is none
abbrev pub any_has : {A : Type 0} → List (A × Bool) → Bool
any_has = list_any (λ part. part.1)

abbrev pub has_if_any : {A : Type 0} → Option (A × Bool) → Bool
has_if_any part = option_map_or (λ p. p.1) part false

abbrev pub layer_has_aggregate :
    layer.E-F (E × Bool) (Place × Bool) (Arm × Bool) (ProdTerm × Bool) (SumTerm × Bool) → Bool
layer_has_aggregate (layer.Or es) = any_has es
layer_has_aggregate (layer.And es) = any_has es
layer_has_aggregate (layer.Not a) = a.1
layer_has_aggregate (layer.Cmp a op b) = a.1 || b.1
layer_has_aggregate (layer.Between a negated low high) = a.1 || low.1 || high.1
layer_has_aggregate (layer.InList a negated es) = a.1 || any_has es
layer_has_aggregate (layer.IsNull a negated) = a.1
layer_has_aggregate (layer.IsPresent a negated) = a.1
layer_has_aggregate (layer.IsAny a) = a.1
layer_has_aggregate (layer.Sum first terms) = first.1 || any_has terms
layer_has_aggregate (layer.Prod first terms) = first.1 || any_has terms
layer_has_aggregate (layer.Neg a) = a.1
layer_has_aggregate (layer.Lit v) = false
layer_has_aggregate (layer.Name path) = false
layer_has_aggregate (layer.Cell path places) = any_has places
layer_has_aggregate (layer.Agg agg a) = true
layer_has_aggregate layer.CountAll = true
layer_has_aggregate (layer.RangeAgg agg name places) = any_has places
layer_has_aggregate (layer.Case of arms or_else) = has_if_any of || any_has arms || has_if_any or_else
layer_has_aggregate (layer.Cast a k) = a.1
layer_has_aggregate (layer.Call f es) = any_has es
layer_has_aggregate (layer.Cv name) = false
layer_has_aggregate layer.Turn = false
layer_has_aggregate (layer.Previous a) = a.1
layer_has_aggregate (layer.PresentV es) = any_has es
layer_has_aggregate (layer.PresentNnv es) = any_has es

abbrev pub place_has_aggregate :
    layer.Place-F (E × Bool) (Place × Bool) (Arm × Bool) (ProdTerm × Bool) (SumTerm × Bool) → Bool
place_has_aggregate layer.Any = false
place_has_aggregate (layer.Expr e) = e.1

unfoldable pub has_aggregate : E → Bool
has_aggregate =
    para-E Bool Bool Bool Bool Bool
    layer_has_aggregate place_has_aggregate (λ arm. arm.test.1 || arm.value.1) (λ term. term.e.1) (λ term. term.e.1)
