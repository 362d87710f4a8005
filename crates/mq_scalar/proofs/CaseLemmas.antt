-- CASE from the values of its parts.
use Rattle.std.proofs.Common.{◌≡◌, List, map, Result, Ok, Option, ap, ◌∙◌}
use Rattle.std.specs.Option.{option_map}
use Rattle.mq_values.specs.declared.faults.ValueFault.{ValueFault}
use Rattle.mq_values.specs.declared.value.Value.{Value}
use Rattle.mq_ir.specs.declared.expression.BoundArm.{BoundArm}
use Rattle.mq_ir.specs.declared.expression.Expr.{Expr}
use Rattle.mq_ir.specs.declared.expression.Expr.TheVariants as expr
use Rattle.mq_ir.specs.declared.expression.Leaf.{Leaf}
use Rattle.mq_ir.specs.Conditions.{arm_taken, value_if, or_else}
use Rattle.mq_ir.specs.Expression.{worth_of}
use Rattle.mq_ir.specs.ExpressionLaws.{worth_case}
use Rattle.mq_ir.specs.PartLaws.{arm_found}
use Rattle.mq_ir.specs.Results.{◌>>=◌}
use Rattle.mq_ir.specs.Worth.{Outcome, a_value}
use Rattle.mq_scalar.proofs.ExitLemmas.{moved}

-- what the arms come to: a result, or that none is taken
abbrev pub Taken : Type 0
Taken = Result (Option Value) ValueFault

-- the leaves are worth the same throughout; `lent` is the list of the arms once more
pub case_of_parts : (leaves between after : Leaf → Outcome) (e : Expr) (subject : Option Expr) (arms lent : List BoundArm) (otherwise : Option Expr) (v : Option Value) (taken : Taken) (result : Outcome) →
    e ≡ expr.Case subject arms otherwise → lent ≡ arms → between ≡ leaves → after ≡ leaves →
    value_if (option_map (worth_of leaves) subject) ≡ Ok v → arm_taken v (map (arm_found between) lent) ≡ taken →
    taken >>= (λ t. or_else t (option_map (worth_of after) otherwise)) ≡ result → worth_of leaves e ≡ a_value result
case_of_parts leaves between after e subject arms lent otherwise v taken result is copied same still subject_gives arms_give else_gives =
    ap (worth_of leaves) is
    ∙ worth_case leaves subject arms otherwise
    ∙ ap (λ (r : Taken). a_value (r >>= (λ s. arm_taken s (map (arm_found leaves) arms) >>= (λ t. or_else t (option_map (worth_of leaves) otherwise))))) subject_gives
    ∙ ap (λ (r : Taken). a_value (r >>= (λ t. or_else t (option_map (worth_of leaves) otherwise))))
    (moved (λ (l : Leaf → Outcome). arm_taken v (map (arm_found l) arms)) between leaves taken same
    (moved (λ (ws : List BoundArm). arm_taken v (map (arm_found between) ws)) lent arms taken copied arms_give))
    ∙ ap a_value (moved (λ (l : Leaf → Outcome). taken >>= (λ t. or_else t (option_map (worth_of l) otherwise))) after leaves result still else_gives)
