-- A place of a bracket: the test that a condition makes of its dimension, and the index of a single cell.
use Rattle.std.specs.Prelude.{List, [], ◌∷◌, map, Bool, true, false, not, ◌&&◌, if◌then◌else◌, Option, Some, None, Result, Ok, Err}
use Rattle.std.specs.List.{list_all}
use Rattle.std.specs.Option.{option_and_then, option_map, option_map_or}
use Rattle.mq_values.specs.declared.faults.Refused.{Refused}
use Rattle.mq_values.specs.declared.operators.CmpOp.{CmpOp}
use Rattle.mq_values.specs.declared.operators.CmpOp.TheVariants as cmp
use Rattle.mq_values.specs.declared.value.Value.TheVariants as value
use Rattle.mq_ast.specs.declared.expressions.E.{E}
use Rattle.mq_ir.specs.declared.expression.BoundArm.{BoundArm}
use Rattle.mq_ir.specs.declared.expression.BoundProd.{BoundProd}
use Rattle.mq_ir.specs.declared.expression.BoundSum.{BoundSum}
use Rattle.mq_ir.specs.declared.expression.Expr.{Expr, para-Expr}
use Rattle.mq_ir.specs.declared.expression.Expr.TheVariants as expr
use Rattle.mq_ir.specs.declared.expression.Expr.TheOpen as layer
use Rattle.mq_ir.specs.declared.expression.Leaf.{Leaf}
use Rattle.mq_ir.specs.declared.expression.Test.{Test, out-Test}
use Rattle.mq_ir.specs.declared.expression.Test.TheVariants as test
use Rattle.mq_bind_scopes.specs.declared.kinds.ExprKind.{ExprKind}
use Rattle.mq_bind_scopes.specs.declared.misuse_numbers.TheConstants.{MISUSE_OF_CONDITION_IN_BRACKETS, MISUSE_OF_CONDITION_IN_CELL}
use Rattle.mq_bind_scopes.specs.declared.scopes.Found.{Found}
use Rattle.mq_bind_scopes.specs.declared.scopes.Placed.{Placed}
use Rattle.mq_bind_expr.specs.Dimensions.{is_dimension, names_dimension}
use Rattle.mq_bind_expr.specs.Forms.{is_any_form, is_condition}
use Rattle.mq_bind_scopes.specs.Kinds.{is_index}
use Rattle.mq_bind_scopes.specs.Refusals.{kind_mismatch, misuse, refused_where}

-- an operand does not name the dimension
abbrev pub is_free : Expr → Bool
is_free e = not (names_dimension e)

abbrev pub negated_test : Bool → Test → Test
negated_test true t = test.Not t
negated_test false t = t

abbrev pub cmp_test : Expr → CmpOp → Expr → Option Test
cmp_test d op e = if is_dimension d && is_free e then Some (test.Cmp op e) else None

abbrev pub between_test : Expr → Bool → Expr → Expr → Option Test
between_test d negated low high =
    if is_dimension d && is_free low && is_free high then Some (negated_test negated (test.Between low high)) else None

abbrev pub in_test : Expr → Bool → List Expr → Option Test
in_test d negated es = if is_dimension d && list_all is_free es then Some (negated_test negated (test.In es)) else None

abbrev pub null_test : Expr → Bool → Option Test
null_test d negated = if is_dimension d then Some (negated_test negated test.Null) else None

-- parts of an expression, each beside its test
abbrev pub all_tests : List (Expr × Option Test) → Option (List Test)
all_tests [] = Some []
all_tests (part ∷ parts) = option_and_then (λ t. option_map (λ ts. t ∷ ts) (all_tests parts)) part.1

abbrev pub firsts : List (Expr × Option Test) → List Expr
firsts = map (λ (part : Expr × Option Test). part.0)

-- The form of a symbolic item: AND, OR and NOT of `d op e`, `d BETWEEN e AND e`, `d IN (e, ..)` and `d IS NULL`, where d is the dimension and each e
-- does not name it.
abbrev pub layer_test :
    layer.Expr-F (Expr × Option Test) (Leaf × Unit {0}) (Test × Unit {0}) (BoundArm × Unit {0}) (BoundProd × Unit {0}) (BoundSum × Unit {0}) → Option Test
layer_test (layer.«Expr::Or» parts) = option_map test.Or (all_tests parts)
layer_test (layer.«Expr::And» parts) = option_map test.And (all_tests parts)
layer_test (layer.«Expr::Not» part) = option_map test.Not part.1
layer_test (layer.«Expr::Cmp» d op e) = cmp_test d.0 op e.0
layer_test (layer.«Expr::Between» d negated low high) = between_test d.0 negated low.0 high.0
layer_test (layer.InList d negated es) = in_test d.0 negated (firsts es)
layer_test (layer.IsNull d negated) = null_test d.0 negated
layer_test _ = None

-- the test that a bound condition makes of the dimension, where it is of that form
unfoldable pub test_of : Expr → Option Test
test_of =
    para-Expr (Option Test) (Unit {0}) (Unit {0}) (Unit {0}) (Unit {0}) (Unit {0})
    layer_test (λ _. tt) (λ _. tt) (λ _. tt) (λ _. tt) (λ _. tt)

abbrev pub placed : Test → Option ExprKind → Placed
placed t equated = record { test = t; equated = equated }

abbrev pub no_test : {A : Type 0} → Result A Refused
no_test = Err (misuse MISUSE_OF_CONDITION_IN_BRACKETS)

-- a value that names one of a dimension; where there is no dimension nothing is asked
abbrev pub fits_dimension : Option ExprKind → ExprKind → Bool
fits_dimension dim k = option_map_or (λ d. is_index d k) dim true

-- A bound place, for a dimension of this kind: IS ANY of the dimension, a condition, or a value that names one of its values.
abbrev pub any_place : Found → Result Placed Refused
any_place f = if is_dimension f.e then Ok (placed test.Any None) else no_test

abbrev pub condition_place : Found → Result Placed Refused
condition_place f = option_map_or (λ t. Ok (placed t f.equated)) (test_of f.e) no_test

abbrev pub value_place : Option ExprKind → Found → Result Placed Refused
value_place dim f = refused_where (not (fits_dimension dim f.kind)) kind_mismatch (Ok (placed (test.At f.e) None))

abbrev pub place_of : Option ExprKind → E → Found → Result Placed Refused
place_of dim tree f =
    if is_any_form tree then any_place f
    else if is_condition tree then condition_place f
    else value_place dim f

-- The index of a single cell: a value, or what the dimension is equal to. Any other place is an offence, but on a left side, where the cell itself
-- is one: there an index that nothing sees stands in for it.
abbrev pub no_index : Bool → Result Expr Refused
no_index on_left = if on_left then Ok (expr.Lit value.Null) else Err (misuse MISUSE_OF_CONDITION_IN_CELL)

abbrev pub index_equal : Bool → Option ExprKind → CmpOp → Expr → Option ExprKind → Result Expr Refused
index_equal on_left dim cmp.Eq e equated = refused_where (not (option_map_or (fits_dimension dim) equated true)) kind_mismatch (Ok e)
index_equal on_left dim _ e equated = no_index on_left

abbrev pub index_of : Bool → Option ExprKind → Placed → Result Expr Refused
index_of on_left dim p = elim (out-Test p.test) [
  | layer.At e ↦ Ok e
  | layer.«Test::Cmp» op e ↦ index_equal on_left dim op e p.equated
  | _ ↦ no_index on_left
]
