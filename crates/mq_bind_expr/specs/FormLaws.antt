-- Whether an expression has an aggregate, case by case.
use Rattle.std.specs.Prelude.{◌≡◌, ℕ, List, Bool, true, false, ◌||◌, Option, Some, None}
use Rattle.std.specs.List.{list_any}
use Rattle.std.proofs.Common.{sym, ap, ◌∙◌}
use Rattle.mq_values.specs.declared.operators.Agg.{Agg}
use Rattle.mq_values.specs.declared.operators.CmpOp.{CmpOp}
use Rattle.mq_values.specs.declared.operators.Func.{Func}
use Rattle.mq_values.specs.declared.value.Kind.{Kind}
use Rattle.mq_values.specs.declared.value.Value.{Value}
use Rattle.mq_ast.specs.declared.expressions.Arm.{Arm}
use Rattle.mq_ast.specs.declared.expressions.E.{E}
use Rattle.mq_ast.specs.declared.expressions.E.TheOpen as layer
use Rattle.mq_ast.specs.declared.expressions.E.TheVariants as e
use Rattle.mq_ast.specs.declared.expressions.Path.{Path}
use Rattle.mq_ast.specs.declared.expressions.Place.{Place}
use Rattle.mq_ast.specs.declared.expressions.ProdTerm.{ProdTerm}
use Rattle.mq_ast.specs.declared.expressions.SumTerm.{SumTerm}
use Rattle.mq_bind_expr.specs.Forms.{has_aggregate}
use Rattle.mq_bind_expr.specs.FormRolls.{arms_have, case_arm_has, has_roll, has_where_any, parts_have, place_any_has, place_expr_has, place_has, prod_term_has, prods_have, sum_term_has, sums_have}

pub has_or : (xs : List E) → has_aggregate (e.Or xs) ≡ list_any has_aggregate xs
has_or xs = ap has_aggregate (sym (e.rolls-Or xs)) ∙ has_roll (layer.Or xs) ∙ parts_have has_aggregate xs

pub has_and : (xs : List E) → has_aggregate (e.And xs) ≡ list_any has_aggregate xs
has_and xs = ap has_aggregate (sym (e.rolls-And xs)) ∙ has_roll (layer.And xs) ∙ parts_have has_aggregate xs

pub has_not : (x : E) → has_aggregate (e.Not x) ≡ has_aggregate x
has_not x = ap has_aggregate (sym (e.rolls-Not x)) ∙ has_roll (layer.Not x)

pub has_cmp : (x : E) (op : CmpOp) (y : E) → has_aggregate (e.Cmp x op y) ≡ (has_aggregate x || has_aggregate y)
has_cmp x op y = ap has_aggregate (sym (e.rolls-Cmp x op y)) ∙ has_roll (layer.Cmp x op y)

pub has_between : (x : E) (negated : Bool) (y : E) (z : E) →
    has_aggregate (e.Between x negated y z) ≡ (has_aggregate x || has_aggregate y || has_aggregate z)
has_between x negated y z = ap has_aggregate (sym (e.rolls-Between x negated y z)) ∙ has_roll (layer.Between x negated y z)

pub has_in : (x : E) (negated : Bool) (xs : List E) → has_aggregate (e.InList x negated xs) ≡ (has_aggregate x || list_any has_aggregate xs)
has_in x negated xs =
    ap has_aggregate (sym (e.rolls-InList x negated xs))
    ∙ has_roll (layer.InList x negated xs)
    ∙ ap (λ b. has_aggregate x || b) (parts_have has_aggregate xs)

pub has_is_null : (x : E) (negated : Bool) → has_aggregate (e.IsNull x negated) ≡ has_aggregate x
has_is_null x negated = ap has_aggregate (sym (e.rolls-IsNull x negated)) ∙ has_roll (layer.IsNull x negated)

pub has_is_present : (x : E) (negated : Bool) → has_aggregate (e.IsPresent x negated) ≡ has_aggregate x
has_is_present x negated = ap has_aggregate (sym (e.rolls-IsPresent x negated)) ∙ has_roll (layer.IsPresent x negated)

pub has_is_any : (x : E) → has_aggregate (e.IsAny x) ≡ has_aggregate x
has_is_any x = ap has_aggregate (sym (e.rolls-IsAny x)) ∙ has_roll (layer.IsAny x)

pub has_sum : (x : E) (ts : List SumTerm) → has_aggregate (e.Sum x ts) ≡ (has_aggregate x || list_any sum_term_has ts)
has_sum x ts = ap has_aggregate (sym (e.rolls-Sum x ts)) ∙ has_roll (layer.Sum x ts) ∙ ap (λ b. has_aggregate x || b) (sums_have ts)

pub has_prod : (x : E) (ts : List ProdTerm) → has_aggregate (e.Prod x ts) ≡ (has_aggregate x || list_any prod_term_has ts)
has_prod x ts = ap has_aggregate (sym (e.rolls-Prod x ts)) ∙ has_roll (layer.Prod x ts) ∙ ap (λ b. has_aggregate x || b) (prods_have ts)

pub has_neg : (x : E) → has_aggregate (e.Neg x) ≡ has_aggregate x
has_neg x = ap has_aggregate (sym (e.rolls-Neg x)) ∙ has_roll (layer.Neg x)

pub has_lit : (v : Value) → has_aggregate (e.Lit v) ≡ false
has_lit v = ap has_aggregate (sym (e.rolls-Lit v)) ∙ has_roll (layer.Lit v)

pub has_name : (path : Path) → has_aggregate (e.Name path) ≡ false
has_name path = ap has_aggregate (sym (e.rolls-Name path)) ∙ has_roll (layer.Name path)

pub has_cell : (path : Path) (ps : List Place) → has_aggregate (e.Cell path ps) ≡ list_any place_has ps
has_cell path ps = ap has_aggregate (sym (e.rolls-Cell path ps)) ∙ has_roll (layer.Cell path ps) ∙ parts_have place_has ps

pub has_agg : (f : Agg) (x : E) → has_aggregate (e.Agg f x) ≡ true
has_agg f x = ap has_aggregate (sym (e.rolls-Agg f x)) ∙ has_roll (layer.Agg f x)

pub has_count_all : has_aggregate e.CountAll ≡ true
has_count_all = ap has_aggregate (sym e.rolls-CountAll) ∙ has_roll layer.CountAll

pub has_range : (f : Agg) (name : List ℕ) (ps : List Place) → has_aggregate (e.RangeAgg f name ps) ≡ list_any place_has ps
has_range f name ps = ap has_aggregate (sym (e.rolls-RangeAgg f name ps)) ∙ has_roll (layer.RangeAgg f name ps) ∙ parts_have place_has ps

pub has_cast : (x : E) (k : Kind) → has_aggregate (e.Cast x k) ≡ has_aggregate x
has_cast x k = ap has_aggregate (sym (e.rolls-Cast x k)) ∙ has_roll (layer.Cast x k)

pub has_call : (f : Func) (xs : List E) → has_aggregate (e.Call f xs) ≡ list_any has_aggregate xs
has_call f xs = ap has_aggregate (sym (e.rolls-Call f xs)) ∙ has_roll (layer.Call f xs) ∙ parts_have has_aggregate xs

pub has_cv : (name : Option (List ℕ)) → has_aggregate (e.Cv name) ≡ false
has_cv name = ap has_aggregate (sym (e.rolls-Cv name)) ∙ has_roll (layer.Cv name)

pub has_turn : has_aggregate e.Turn ≡ false
has_turn = ap has_aggregate (sym e.rolls-Turn) ∙ has_roll layer.Turn

pub has_previous : (x : E) → has_aggregate (e.Previous x) ≡ has_aggregate x
has_previous x = ap has_aggregate (sym (e.rolls-Previous x)) ∙ has_roll (layer.Previous x)

pub has_presentv : (xs : List E) → has_aggregate (e.PresentV xs) ≡ list_any has_aggregate xs
has_presentv xs = ap has_aggregate (sym (e.rolls-PresentV xs)) ∙ has_roll (layer.PresentV xs) ∙ parts_have has_aggregate xs

pub has_presentnnv : (xs : List E) → has_aggregate (e.PresentNnv xs) ≡ list_any has_aggregate xs
has_presentnnv xs = ap has_aggregate (sym (e.rolls-PresentNnv xs)) ∙ has_roll (layer.PresentNnv xs) ∙ parts_have has_aggregate xs

pub has_case : (of : Option E) (arms : List Arm) (or_else : Option E) →
    has_aggregate (e.Case of arms or_else) ≡ (has_where_any of || list_any case_arm_has arms || has_where_any or_else)
has_case None arms None =
    ap has_aggregate (sym (e.rolls-Case None arms None)) ∙ has_roll (layer.Case None arms None)
    ∙ ap (λ r. has_where_any None || r || has_where_any None) (arms_have arms)
has_case None arms (Some y) =
    ap has_aggregate (sym (e.rolls-Case None arms (Some y))) ∙ has_roll (layer.Case None arms (Some y))
    ∙ ap (λ r. has_where_any None || r || has_where_any (Some y)) (arms_have arms)
has_case (Some x) arms None =
    ap has_aggregate (sym (e.rolls-Case (Some x) arms None)) ∙ has_roll (layer.Case (Some x) arms None)
    ∙ ap (λ r. has_where_any (Some x) || r || has_where_any None) (arms_have arms)
has_case (Some x) arms (Some y) =
    ap has_aggregate (sym (e.rolls-Case (Some x) arms (Some y))) ∙ has_roll (layer.Case (Some x) arms (Some y))
    ∙ ap (λ r. has_where_any (Some x) || r || has_where_any (Some y)) (arms_have arms)

pub ruleset has_laws = (has_or, has_and, has_not, has_cmp, has_between, has_in, has_is_null, has_is_present, has_is_any, has_sum, has_prod, has_neg, has_lit, has_name, has_cell, has_agg, has_count_all, has_range, has_cast, has_call, has_cv, has_turn, has_previous, has_presentv, has_presentnnv, has_case, place_any_has, place_expr_has)
