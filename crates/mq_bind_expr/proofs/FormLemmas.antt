-- CASE from what is told of its parts.
use Rattle.std.proofs.Common.{◌≡◌, List, Bool, ◌||◌, Option, sym, ap, ◌∙◌}
use Rattle.std.specs.List.{list_any}
use Rattle.mq_ast.specs.declared.expressions.Arm.{Arm}
use Rattle.mq_ast.specs.declared.expressions.E.{E}
use Rattle.mq_ast.specs.declared.expressions.E.TheVariants as e
use Rattle.mq_bind_expr.specs.FormLaws.{has_case}
use Rattle.mq_bind_expr.specs.FormRolls.{case_arm_has, has_where_any}
use Rattle.mq_bind_expr.specs.Forms.{has_aggregate}

-- `lent` is the list of the arms once more
pub case_has : (x : E) (of : Option E) (arms lent : List Arm) (or_else : Option E) (p q r told : Bool) →
    x ≡ e.Case of arms or_else → lent ≡ arms → p ≡ has_where_any of → q ≡ list_any case_arm_has lent → r ≡ has_where_any or_else →
    told ≡ (p || q || r) → told ≡ has_aggregate x
case_has x of arms lent or_else p q r told is copied f s t h =
    h ∙ (λ i. f i || s i || t i)
    ∙ (λ i. has_where_any of || list_any case_arm_has (copied i) || has_where_any or_else)
    ∙ sym (has_case of arms or_else)
    ∙ ap has_aggregate (sym is)
