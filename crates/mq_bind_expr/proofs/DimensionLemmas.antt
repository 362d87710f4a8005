-- CASE from what is told of its parts.
use Rattle.std.proofs.Common.{◌≡◌, List, Bool, ◌||◌, Option, sym, ap, ◌∙◌}
use Rattle.std.specs.List.{list_any}
use Rattle.mq_ir.specs.declared.expression.BoundArm.{BoundArm}
use Rattle.mq_ir.specs.declared.expression.Expr.{Expr}
use Rattle.mq_ir.specs.declared.expression.Expr.TheVariants as e
use Rattle.mq_bind_expr.specs.DimensionLaws.{names_case}
use Rattle.mq_bind_expr.specs.DimensionRolls.{case_arm_names, names_where_any}
use Rattle.mq_bind_expr.specs.Dimensions.{names_dimension}

-- `lent` is the list of the arms once more
pub case_names : (x : Expr) (of : Option Expr) (arms lent : List BoundArm) (or_else : Option Expr) (p q r told : Bool) →
    x ≡ e.Case of arms or_else → lent ≡ arms → p ≡ names_where_any of → q ≡ list_any case_arm_names lent → r ≡ names_where_any or_else →
    told ≡ (p || q || r) → told ≡ names_dimension x
case_names x of arms lent or_else p q r told is copied f s t h =
    h ∙ (λ i. f i || s i || t i)
    ∙ (λ i. names_where_any of || list_any case_arm_names (copied i) || names_where_any or_else)
    ∙ sym (names_case of arms or_else)
    ∙ ap names_dimension (sym is)
