-- Where a bound condition names the dimension under test, case by case.
use Rattle.std.specs.Prelude.{◌≡◌, List, Bool, false, ◌||◌, Option, Some, None}
use Rattle.std.specs.List.{list_any}
use Rattle.std.proofs.Common.{sym, ap, ◌∙◌}
use Rattle.mq_values.specs.declared.operators.CmpOp.{CmpOp}
use Rattle.mq_values.specs.declared.operators.Func.{Func}
use Rattle.mq_values.specs.declared.value.Kind.{Kind}
use Rattle.mq_values.specs.declared.value.Value.{Value}
use Rattle.mq_ir.specs.declared.expression.BoundArm.{BoundArm}
use Rattle.mq_ir.specs.declared.expression.BoundProd.{BoundProd}
use Rattle.mq_ir.specs.declared.expression.BoundSum.{BoundSum}
use Rattle.mq_ir.specs.declared.expression.Expr.{Expr}
use Rattle.mq_ir.specs.declared.expression.Expr.TheOpen as layer
use Rattle.mq_ir.specs.declared.expression.Expr.TheVariants as e
use Rattle.mq_ir.specs.declared.expression.Leaf.{Leaf}
use Rattle.mq_bind_expr.specs.Dimensions.{is_column_leaf, names_dimension}
use Rattle.mq_bind_expr.specs.FormRolls.{alike, parts_have}
use Rattle.mq_bind_expr.specs.DimensionRolls.{arm_is, arm_names, case_arm_names, names_roll, names_where_any, prod_is, prod_names, prod_term_names, sum_is, sum_names, sum_term_names}

pub names_or : (xs : List Expr) → names_dimension (e.Or xs) ≡ list_any names_dimension xs
names_or xs = ap names_dimension (sym (e.rolls-Or xs)) ∙ names_roll (layer.«Expr::Or» xs) ∙ parts_have names_dimension xs

pub names_and : (xs : List Expr) → names_dimension (e.And xs) ≡ list_any names_dimension xs
names_and xs = ap names_dimension (sym (e.rolls-And xs)) ∙ names_roll (layer.«Expr::And» xs) ∙ parts_have names_dimension xs

pub names_not : (x : Expr) → names_dimension (e.Not x) ≡ names_dimension x
names_not x = ap names_dimension (sym (e.rolls-Not x)) ∙ names_roll (layer.«Expr::Not» x)

pub names_cmp : (x : Expr) (op : CmpOp) (y : Expr) → names_dimension (e.Cmp x op y) ≡ (names_dimension x || names_dimension y)
names_cmp x op y = ap names_dimension (sym (e.rolls-Cmp x op y)) ∙ names_roll (layer.«Expr::Cmp» x op y)

pub names_between : (x : Expr) (negated : Bool) (y : Expr) (z : Expr) →
    names_dimension (e.Between x negated y z) ≡ (names_dimension x || names_dimension y || names_dimension z)
names_between x negated y z = ap names_dimension (sym (e.rolls-Between x negated y z)) ∙ names_roll (layer.«Expr::Between» x negated y z)

pub names_in : (x : Expr) (negated : Bool) (xs : List Expr) →
    names_dimension (e.InList x negated xs) ≡ (names_dimension x || list_any names_dimension xs)
names_in x negated xs =
    ap names_dimension (sym (e.rolls-InList x negated xs))
    ∙ names_roll (layer.InList x negated xs)
    ∙ ap (λ b. names_dimension x || b) (parts_have names_dimension xs)

pub names_is_null : (x : Expr) (negated : Bool) → names_dimension (e.IsNull x negated) ≡ names_dimension x
names_is_null x negated = ap names_dimension (sym (e.rolls-IsNull x negated)) ∙ names_roll (layer.IsNull x negated)

pub names_is_present : (l : Leaf) (negated : Bool) → names_dimension (e.IsPresent l negated) ≡ false
names_is_present l negated = ap names_dimension (sym (e.rolls-IsPresent l negated)) ∙ names_roll (layer.IsPresent l negated)

pub names_sum : (x : Expr) (ts : List BoundSum) → names_dimension (e.Sum x ts) ≡ (names_dimension x || list_any sum_term_names ts)
names_sum x ts =
    ap names_dimension (sym (e.rolls-Sum x ts))
    ∙ names_roll (layer.Sum x ts)
    ∙ ap (λ b. names_dimension x || b) (parts_have sum_names ts ∙ alike sum_names sum_term_names sum_is ts)

pub names_prod : (x : Expr) (ts : List BoundProd) → names_dimension (e.Prod x ts) ≡ (names_dimension x || list_any prod_term_names ts)
names_prod x ts =
    ap names_dimension (sym (e.rolls-Prod x ts))
    ∙ names_roll (layer.Prod x ts)
    ∙ ap (λ b. names_dimension x || b) (parts_have prod_names ts ∙ alike prod_names prod_term_names prod_is ts)

pub names_neg : (x : Expr) → names_dimension (e.Neg x) ≡ names_dimension x
names_neg x = ap names_dimension (sym (e.rolls-Neg x)) ∙ names_roll (layer.Neg x)

pub names_lit : (v : Value) → names_dimension (e.Lit v) ≡ false
names_lit v = ap names_dimension (sym (e.rolls-Lit v)) ∙ names_roll (layer.Lit v)

pub names_leaf : (l : Leaf) → names_dimension (e.Leaf l) ≡ is_column_leaf l
names_leaf l = ap names_dimension (sym (e.rolls-Leaf l)) ∙ names_roll (layer.Leaf l)

pub names_cast : (x : Expr) (k : Kind) → names_dimension (e.Cast x k) ≡ names_dimension x
names_cast x k = ap names_dimension (sym (e.rolls-Cast x k)) ∙ names_roll (layer.Cast x k)

pub names_convert : (x : Expr) (k : Kind) → names_dimension (e.Convert x k) ≡ names_dimension x
names_convert x k = ap names_dimension (sym (e.rolls-Convert x k)) ∙ names_roll (layer.Convert x k)

pub names_call : (f : Func) (xs : List Expr) → names_dimension (e.Call f xs) ≡ list_any names_dimension xs
names_call f xs = ap names_dimension (sym (e.rolls-Call f xs)) ∙ names_roll (layer.Call f xs) ∙ parts_have names_dimension xs

pub names_presentv : (l : Leaf) (x : Expr) (y : Expr) → names_dimension (e.PresentV l x y) ≡ (names_dimension x || names_dimension y)
names_presentv l x y = ap names_dimension (sym (e.rolls-PresentV l x y)) ∙ names_roll (layer.PresentV l x y)

pub names_presentnnv : (l : Leaf) (n : Leaf) (x : Expr) (y : Expr) →
    names_dimension (e.PresentNnv l n x y) ≡ (names_dimension x || names_dimension y)
names_presentnnv l n x y = ap names_dimension (sym (e.rolls-PresentNnv l n x y)) ∙ names_roll (layer.PresentNnv l n x y)

pub names_case : (of : Option Expr) (arms : List BoundArm) (or_else : Option Expr) →
    names_dimension (e.Case of arms or_else) ≡ (names_where_any of || list_any case_arm_names arms || names_where_any or_else)
names_case None arms None =
    ap names_dimension (sym (e.rolls-Case None arms None)) ∙ names_roll (layer.Case None arms None)
    ∙ ap (λ r. names_where_any None || r || names_where_any None) (parts_have arm_names arms ∙ alike arm_names case_arm_names arm_is arms)
names_case None arms (Some y) =
    ap names_dimension (sym (e.rolls-Case None arms (Some y))) ∙ names_roll (layer.Case None arms (Some y))
    ∙ ap (λ r. names_where_any None || r || names_where_any (Some y)) (parts_have arm_names arms ∙ alike arm_names case_arm_names arm_is arms)
names_case (Some x) arms None =
    ap names_dimension (sym (e.rolls-Case (Some x) arms None)) ∙ names_roll (layer.Case (Some x) arms None)
    ∙ ap (λ r. names_where_any (Some x) || r || names_where_any None) (parts_have arm_names arms ∙ alike arm_names case_arm_names arm_is arms)
names_case (Some x) arms (Some y) =
    ap names_dimension (sym (e.rolls-Case (Some x) arms (Some y))) ∙ names_roll (layer.Case (Some x) arms (Some y))
    ∙ ap (λ r. names_where_any (Some x) || r || names_where_any (Some y)) (parts_have arm_names arms ∙ alike arm_names case_arm_names arm_is arms)

pub ruleset dimension_laws = (names_or, names_and, names_not, names_cmp, names_between, names_in, names_is_null, names_is_present, names_sum, names_prod, names_neg, names_lit, names_leaf, names_cast, names_convert, names_call, names_presentv, names_presentnnv, names_case)
