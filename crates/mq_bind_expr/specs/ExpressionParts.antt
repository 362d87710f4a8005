-- What the walk makes of lists of parts of an expression.
use Rattle.std.specs.Prelude.{◌≡◌, ℕ, ◌+◌, List, [], ◌∷◌, map, Result, Ok, refl}
use Rattle.mq_values.specs.declared.faults.Refused.{Refused}
use Rattle.mq_values.specs.declared.operators.ProdOp.{ProdOp}
use Rattle.mq_values.specs.declared.operators.SumOp.{SumOp}
use Rattle.mq_ast.specs.declared.expressions.Arm.{Arm}
use Rattle.mq_ast.specs.declared.expressions.E.{E}
use Rattle.mq_ast.specs.declared.expressions.Place.{Place}
use Rattle.mq_ast.specs.declared.expressions.ProdTerm.{ProdTerm}
use Rattle.mq_ast.specs.declared.expressions.SumTerm.{SumTerm}
use Rattle.mq_ir.specs.declared.expression.Expr.{Expr}
use Rattle.mq_ir.specs.declared.expression.Test.{Test}
use Rattle.mq_ir.specs.Results.{◌>>=◌, each}
use Rattle.mq_bind_scopes.specs.declared.scopes.Found.{Found}
use Rattle.mq_bind_scopes.specs.declared.scopes.Owner.{Owner}
use Rattle.mq_bind_scopes.specs.declared.scopes.Owner.TheVariants as owner
use Rattle.mq_bind_scopes.specs.declared.scopes.Position.{Position}
use Rattle.mq_bind_scopes.specs.declared.scopes.Scope.{Scope}
use Rattle.mq_bind_expr.specs.ExpressionVisits.{index_at, test_at, visited, visited_arms, visited_prods, visited_sums}
use Rattle.mq_bind_expr.specs.Steps.{each_from}
use Rattle.mq_bind_expr.specs.ExpressionWalk.{bound}
use Rattle.mq_bind_expr.specs.PlaceTests.{index_of}
use Rattle.mq_bind_scopes.specs.Positions.{is_left, place_kind}
use Rattle.mq_bind_expr.specs.ExpressionRolls.{arm_bound, arm_found, arm_is, place_bound, prod_bound, prod_is, sum_bound, sum_is}

-- lists of parts, from left to right
abbrev pub all_found : Scope → Position → List E → Result (List Found) Refused
all_found scope at = each (λ (e : E). bound scope e at)

abbrev pub sum_found : Scope → Position → SumTerm → Result (SumOp × Found) Refused
sum_found scope at t = bound scope t.e at >>= (λ f. Ok (t.op, f))

abbrev pub prod_found : Scope → Position → ProdTerm → Result (ProdOp × Found) Refused
prod_found scope at t = bound scope t.e at >>= (λ f. Ok (t.op, f))

abbrev pub index_found : Scope → Position → Owner → ℕ → Place → Result Expr Refused
index_found scope at o n p = place_bound scope p at o n >>= index_of (is_left at.part) (place_kind scope o n)

abbrev pub test_found : Scope → Position → ℕ → Place → Result Test Refused
test_found scope at n p = place_bound scope p at owner.Main n >>= (λ q. Ok q.test)

pub all_are : (scope : Scope) (at : Position) (es : List E) → visited at (map (λ (e : E). (e, bound scope e)) es) ≡ all_found scope at es
all_are scope at [] = refl
all_are scope at (e ∷ es) = λ i. bound scope e at >>= (λ f. all_are scope at es i >>= (λ fs. Ok (f ∷ fs)))

pub sums_are : (scope : Scope) (at : Position) (ts : List SumTerm) →
    visited_sums at (map (λ (t : SumTerm). (t, sum_bound scope t)) ts) ≡ each (sum_found scope at) ts
sums_are scope at [] = refl
sums_are scope at (t ∷ ts) = λ i. (sum_is scope t at i >>= (λ f. Ok (t.op, f))) >>= (λ y. sums_are scope at ts i >>= (λ ys. Ok (y ∷ ys)))

pub prods_are : (scope : Scope) (at : Position) (ts : List ProdTerm) →
    visited_prods at (map (λ (t : ProdTerm). (t, prod_bound scope t)) ts) ≡ each (prod_found scope at) ts
prods_are scope at [] = refl
prods_are scope at (t ∷ ts) = λ i. (prod_is scope t at i >>= (λ f. Ok (t.op, f))) >>= (λ y. prods_are scope at ts i >>= (λ ys. Ok (y ∷ ys)))

pub arms_are : (scope : Scope) (at : Position) (ms : List Arm) →
    visited_arms at (map (λ (a : Arm). (a, arm_bound scope a)) ms) ≡ each (arm_found scope at) ms
arms_are scope at [] = refl
arms_are scope at (a ∷ ms) = λ i. arm_is scope a at i >>= (λ y. arms_are scope at ms i >>= (λ ys. Ok (y ∷ ys)))

pub indices_are : (scope : Scope) (at : Position) (o : Owner) (n : ℕ) (ps : List Place) →
    each_from (index_at scope at o) n (map (λ (p : Place). (p, place_bound scope p)) ps) ≡ each_from (index_found scope at o) n ps
indices_are scope at o n [] = refl
indices_are scope at o n (p ∷ ps) = λ i. index_found scope at o n p >>= (λ y. indices_are scope at o (n + 1) ps i >>= (λ ys. Ok (y ∷ ys)))

pub tests_are : (scope : Scope) (at : Position) (n : ℕ) (ps : List Place) →
    each_from (test_at at) n (map (λ (p : Place). (p, place_bound scope p)) ps) ≡ each_from (test_found scope at) n ps
tests_are scope at n [] = refl
tests_are scope at n (p ∷ ps) = λ i. test_found scope at n p >>= (λ y. tests_are scope at (n + 1) ps i >>= (λ ys. Ok (y ∷ ys)))
