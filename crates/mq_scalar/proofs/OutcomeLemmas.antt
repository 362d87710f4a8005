-- A value as what it is worth and back, and a truth likewise.
use Rattle.std.proofs.Common.{◌≡◌, Ok, Err, refl}
use Rattle.mq_ir.specs.ExpressionLaws.{worth_laws}
use Rattle.mq_ir.specs.Worth.{Outcome, Verdict, a_value, a_truth, as_value, as_truth}

pub value_back : (r : Outcome) → as_value (a_value r) ≡ r
value_back (Ok v) = refl
value_back (Err fault) = refl

pub truth_back : (r : Verdict) → as_truth (a_truth r) ≡ r
truth_back (Ok t) = refl
truth_back (Err fault) = refl

-- what an expression is worth, case by case, and back
pub ruleset outcome_laws = (worth_laws, value_back, truth_back)
