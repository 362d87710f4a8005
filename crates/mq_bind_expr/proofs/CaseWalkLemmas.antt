-- CASE from what the walk makes of its parts.
use Rattle.std.proofs.Common.{◌≡◌, ◌<◌, List, [], ◌∷◌, length, Option, Result, Ok, Err, refl, sym, ap, ◌∙◌, arith}
use Rattle.mq_values.specs.Answers.{Gives}
use Rattle.mq_values.specs.declared.faults.Refused.{Refused}
use Rattle.mq_values.specs.declared.memory.Fail.{Fail}
use Rattle.mq_values.specs.declared.memory.Fail.TheVariants as fail
use Rattle.mq_ast.specs.declared.expressions.Arm.{Arm}
use Rattle.mq_ast.specs.declared.expressions.E.{E}
use Rattle.mq_ast.specs.declared.expressions.E.TheVariants as e
use Rattle.mq_ir.specs.Results.{◌>>=◌, each}
use Rattle.mq_bind_scopes.specs.declared.scopes.Found.{Found}
use Rattle.mq_bind_scopes.specs.declared.scopes.Position.{Position}
use Rattle.mq_bind_scopes.specs.declared.scopes.Scope.{Scope}
use Rattle.mq_bind_expr.specs.CaseLaws.{bound_case, found_if_any}
use Rattle.mq_bind_expr.specs.ExpressionRolls.{arm_found}
use Rattle.mq_bind_expr.specs.ExpressionWalk.{bound}
use Rattle.mq_bind_expr.specs.FunctionNodes.{ArmFound, case_node}
use Rattle.mq_bind_expr.specs.PartWalks.{presentnnv_found}
use Rattle.mq_bind_scopes.specs.Positions.{inner}
use Rattle.mq_bind_expr.specs.RuleNodes.{other_presence}

-- a call gives what is meant, also as it is said in another way
pub also_gives : {T E : Type 0} (r : Result T (Fail E)) (meant also : Result T E) → also ≡ meant → Gives r meant → Gives r also
also_gives (Ok x) meant also h g = h ∙ g
also_gives (Err (fail.Cause fault)) meant also h g = h ∙ g
also_gives (Err fail.Memory) meant also h g = tt

together : (s t : Result (Option Found) Refused) (m n : Result (List ArmFound) Refused) (l k : Result (Option Found) Refused) → s ≡ t → m ≡ n → l ≡ k →
    (s >>= (λ subject. m >>= (λ found. l >>= case_node subject found))) ≡ (t >>= (λ subject. n >>= (λ found. k >>= case_node subject found)))
together s t m n l k a b c = λ i. a i >>= (λ subject. b i >>= (λ found. c i >>= case_node subject found))

-- `lent` is the list of the arms once more, and each part stands inside
pub case_parts : (scope : Scope) (at before between behind : Position) (x : E) (of : Option E) (arms lent : List Arm) (or_else : Option E) (s : Result (Option Found) Refused) (m : Result (List ArmFound) Refused) (l : Result (Option Found) Refused) →
    x ≡ e.Case of arms or_else → lent ≡ arms → before ≡ inner at → between ≡ inner at → behind ≡ inner at →
    found_if_any scope before of ≡ s → each (arm_found scope between) lent ≡ m → found_if_any scope behind or_else ≡ l →
    bound scope x at ≡ (s >>= (λ subject. m >>= (λ found. l >>= case_node subject found)))
case_parts scope at before between behind x of arms lent or_else s m l is copied first second third a b c =
    ap (λ x. bound scope x at) is
    ∙ bound_case scope of arms or_else at
    ∙ together (found_if_any scope (inner at) of) s (each (arm_found scope (inner at)) arms) m (found_if_any scope (inner at) or_else) l
    (ap (λ p. found_if_any scope p of) (sym first) ∙ a)
    (ap (λ p. each (arm_found scope p) arms) (sym second) ∙ ap (each (arm_found scope between)) (sym copied) ∙ b)
    (ap (λ p. found_if_any scope p or_else) (sym third) ∙ c)

-- PRESENTNNV of nothing
pub none_found : (scope : Scope) (at : Position) (es : List E) → length es < 1 → presentnnv_found scope at es ≡ other_presence at
none_found scope at [] h = refl
none_found scope at (x ∷ es) h = absurd (omega arith)
