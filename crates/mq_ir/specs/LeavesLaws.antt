-- The leaves of an expression, case by case.
use Rattle.std.specs.Prelude.{◌≡◌, Bool, List, [], ◌∷◌, ◌++◌, map, Option, Some, None, refl}
use Rattle.std.specs.List.{flat_map}
use Rattle.std.specs.Option.{option_map_or}
use Rattle.std.proofs.Common.{sym, ap, ◌∙◌}
use Rattle.mq_values.specs.declared.operators.CmpOp.{CmpOp}
use Rattle.mq_values.specs.declared.operators.Func.{Func}
use Rattle.mq_values.specs.declared.value.Kind.{Kind}
use Rattle.mq_values.specs.declared.value.Value.{Value}
use Rattle.mq_ir.specs.declared.expression.BoundArm.{BoundArm, rolls-BoundArm'}
use Rattle.mq_ir.specs.declared.expression.BoundProd.{BoundProd, rolls-BoundProd'}
use Rattle.mq_ir.specs.declared.expression.BoundSum.{BoundSum, rolls-BoundSum'}
use Rattle.mq_ir.specs.declared.expression.Expr.{Expr}
use Rattle.mq_ir.specs.declared.expression.Expr.TheOpen as layer
use Rattle.mq_ir.specs.declared.expression.Expr.TheVariants as e
use Rattle.mq_ir.specs.declared.expression.Leaf.{Leaf}
use Rattle.mq_ir.specs.Looks.{Leaves, all_leaves, leaves_of}
use Rattle.mq_ir.specs.WorthRolls.{arm_leaves, arm_leaves_roll, leaves_roll, prod_leaves, prod_leaves_roll, sum_leaves, sum_leaves_roll}

-- the leaves of parts, one after another
parts_leaves : {A : Type 0} (f : A → Leaves) (xs : List A) → all_leaves (map (λ (x : A). (x, f x)) xs) ≡ flat_map f xs
parts_leaves f [] = refl
parts_leaves f (x ∷ xs) = ap (λ ls. f x ++ ls) (parts_leaves f xs)

alike : {A : Type 0} (f g : A → Leaves) → ((x : A) → f x ≡ g x) → (xs : List A) → flat_map f xs ≡ flat_map g xs
alike f g h [] = refl
alike f g h (x ∷ xs) = λ i. h x i ++ alike f g h xs i

term_leaves : (t : BoundSum) → sum_leaves t ≡ leaves_of t.e
term_leaves t = ap sum_leaves (sym (rolls-BoundSum' (record { op = t.op; e = t.e }))) ∙ sum_leaves_roll (record { op = t.op; e = t.e })

factor_leaves : (t : BoundProd) → prod_leaves t ≡ leaves_of t.e
factor_leaves t = ap prod_leaves (sym (rolls-BoundProd' (record { op = t.op; e = t.e }))) ∙ prod_leaves_roll (record { op = t.op; e = t.e })

both_leaves : (a : BoundArm) → arm_leaves a ≡ leaves_of a.test ++ leaves_of a.value
both_leaves a = ap arm_leaves (sym (rolls-BoundArm' (record { test = a.test; value = a.value }))) ∙ arm_leaves_roll (record { test = a.test; value = a.value })

terms_leaves : (ts : List BoundSum) → all_leaves (map (λ (t : BoundSum). (t, sum_leaves t)) ts) ≡ flat_map (λ t. leaves_of t.e) ts
terms_leaves ts = parts_leaves sum_leaves ts ∙ alike sum_leaves (λ t. leaves_of t.e) term_leaves ts

factors_leaves : (ts : List BoundProd) → all_leaves (map (λ (t : BoundProd). (t, prod_leaves t)) ts) ≡ flat_map (λ t. leaves_of t.e) ts
factors_leaves ts = parts_leaves prod_leaves ts ∙ alike prod_leaves (λ t. leaves_of t.e) factor_leaves ts

arms_leaves : (arms : List BoundArm) → all_leaves (map (λ (a : BoundArm). (a, arm_leaves a)) arms) ≡ flat_map (λ a. leaves_of a.test ++ leaves_of a.value) arms
arms_leaves arms = parts_leaves arm_leaves arms ∙ alike arm_leaves (λ a. leaves_of a.test ++ leaves_of a.value) both_leaves arms

pub leaves_or : (es : List Expr) → leaves_of (e.Or es) ≡ flat_map leaves_of es
leaves_or es = ap leaves_of (sym (e.rolls-Or es)) ∙ leaves_roll (layer.«Expr::Or» es) ∙ parts_leaves leaves_of es

pub leaves_and : (es : List Expr) → leaves_of (e.And es) ≡ flat_map leaves_of es
leaves_and es = ap leaves_of (sym (e.rolls-And es)) ∙ leaves_roll (layer.«Expr::And» es) ∙ parts_leaves leaves_of es

pub leaves_not : (a : Expr) → leaves_of (e.Not a) ≡ leaves_of a
leaves_not a = ap leaves_of (sym (e.rolls-Not a)) ∙ leaves_roll (layer.«Expr::Not» a)

pub leaves_cmp : (a : Expr) (op : CmpOp) (b : Expr) → leaves_of (e.Cmp a op b) ≡ leaves_of a ++ leaves_of b
leaves_cmp a op b = ap leaves_of (sym (e.rolls-Cmp a op b)) ∙ leaves_roll (layer.«Expr::Cmp» a op b)

pub leaves_between : (a : Expr) (negated : Bool) (b : Expr) (c : Expr) → leaves_of (e.Between a negated b c) ≡ leaves_of a ++ leaves_of b ++ leaves_of c
leaves_between a negated b c = ap leaves_of (sym (e.rolls-Between a negated b c)) ∙ leaves_roll (layer.«Expr::Between» a negated b c)

pub leaves_in : (a : Expr) (negated : Bool) (es : List Expr) → leaves_of (e.InList a negated es) ≡ leaves_of a ++ flat_map leaves_of es
leaves_in a negated es = ap leaves_of (sym (e.rolls-InList a negated es)) ∙ leaves_roll (layer.InList a negated es) ∙ ap (λ ls. leaves_of a ++ ls) (parts_leaves leaves_of es)

pub leaves_is_null : (a : Expr) (negated : Bool) → leaves_of (e.IsNull a negated) ≡ leaves_of a
leaves_is_null a negated = ap leaves_of (sym (e.rolls-IsNull a negated)) ∙ leaves_roll (layer.IsNull a negated)

pub leaves_is_present : (l : Leaf) (negated : Bool) → leaves_of (e.IsPresent l negated) ≡ l ∷ []
leaves_is_present l negated = ap leaves_of (sym (e.rolls-IsPresent l negated)) ∙ leaves_roll (layer.IsPresent l negated)

pub leaves_sum : (a : Expr) (terms : List BoundSum) → leaves_of (e.Sum a terms) ≡ leaves_of a ++ flat_map (λ t. leaves_of t.e) terms
leaves_sum a terms = ap leaves_of (sym (e.rolls-Sum a terms)) ∙ leaves_roll (layer.Sum a terms) ∙ ap (λ ls. leaves_of a ++ ls) (terms_leaves terms)

pub leaves_prod : (a : Expr) (terms : List BoundProd) → leaves_of (e.Prod a terms) ≡ leaves_of a ++ flat_map (λ t. leaves_of t.e) terms
leaves_prod a terms = ap leaves_of (sym (e.rolls-Prod a terms)) ∙ leaves_roll (layer.Prod a terms) ∙ ap (λ ls. leaves_of a ++ ls) (factors_leaves terms)

pub leaves_neg : (a : Expr) → leaves_of (e.Neg a) ≡ leaves_of a
leaves_neg a = ap leaves_of (sym (e.rolls-Neg a)) ∙ leaves_roll (layer.Neg a)

pub leaves_lit : (v : Value) → leaves_of (e.Lit v) ≡ []
leaves_lit v = ap leaves_of (sym (e.rolls-Lit v)) ∙ leaves_roll (layer.Lit v)

pub leaves_leaf : (l : Leaf) → leaves_of (e.Leaf l) ≡ l ∷ []
leaves_leaf l = ap leaves_of (sym (e.rolls-Leaf l)) ∙ leaves_roll (layer.Leaf l)

pub leaves_cast : (a : Expr) (k : Kind) → leaves_of (e.Cast a k) ≡ leaves_of a
leaves_cast a k = ap leaves_of (sym (e.rolls-Cast a k)) ∙ leaves_roll (layer.Cast a k)

pub leaves_convert : (a : Expr) (k : Kind) → leaves_of (e.Convert a k) ≡ leaves_of a
leaves_convert a k = ap leaves_of (sym (e.rolls-Convert a k)) ∙ leaves_roll (layer.Convert a k)

pub leaves_call : (f : Func) (es : List Expr) → leaves_of (e.Call f es) ≡ flat_map leaves_of es
leaves_call f es = ap leaves_of (sym (e.rolls-Call f es)) ∙ leaves_roll (layer.Call f es) ∙ parts_leaves leaves_of es

pub leaves_present_v : (l : Leaf) (a : Expr) (b : Expr) → leaves_of (e.PresentV l a b) ≡ l ∷ (leaves_of a ++ leaves_of b)
leaves_present_v l a b = ap leaves_of (sym (e.rolls-PresentV l a b)) ∙ leaves_roll (layer.PresentV l a b)

pub leaves_present_nnv : (l : Leaf) (n : Leaf) (a : Expr) (b : Expr) → leaves_of (e.PresentNnv l n a b) ≡ l ∷ n ∷ (leaves_of a ++ leaves_of b)
leaves_present_nnv l n a b = ap leaves_of (sym (e.rolls-PresentNnv l n a b)) ∙ leaves_roll (layer.PresentNnv l n a b)

-- the leaves of a part of CASE that may be left out
abbrev pub leaves_where_any : Option Expr → Leaves
leaves_where_any e = option_map_or leaves_of e []

pub leaves_case : (of : Option Expr) (arms : List BoundArm) (or_else : Option Expr)
    → leaves_of (e.Case of arms or_else) ≡ leaves_where_any of ++ flat_map (λ a. leaves_of a.test ++ leaves_of a.value) arms ++ leaves_where_any or_else
leaves_case None arms None = ap leaves_of (sym (e.rolls-Case None arms None)) ∙ leaves_roll (layer.Case None arms None) ∙ ap (λ ls. ls ++ []) (arms_leaves arms)
leaves_case None arms (Some y) =
    ap leaves_of (sym (e.rolls-Case None arms (Some y))) ∙ leaves_roll (layer.Case None arms (Some y)) ∙ ap (λ ls. ls ++ leaves_of y) (arms_leaves arms)
leaves_case (Some x) arms None =
    ap leaves_of (sym (e.rolls-Case (Some x) arms None)) ∙ leaves_roll (layer.Case (Some x) arms None) ∙ ap (λ ls. leaves_of x ++ ls ++ []) (arms_leaves arms)
leaves_case (Some x) arms (Some y) =
    ap leaves_of (sym (e.rolls-Case (Some x) arms (Some y))) ∙ leaves_roll (layer.Case (Some x) arms (Some y))
    ∙ ap (λ ls. leaves_of x ++ ls ++ leaves_of y) (arms_leaves arms)

-- all of them together
pub ruleset leaves_laws = (leaves_or, leaves_and, leaves_not, leaves_cmp, leaves_between, leaves_in, leaves_is_null, leaves_is_present, leaves_sum, leaves_prod, leaves_neg, leaves_lit, leaves_leaf, leaves_cast, leaves_convert, leaves_call, leaves_present_v, leaves_present_nnv, leaves_case)
