-- Exits from a call by the fault of a call inside it.
use Rattle.std.proofs.Common.{◌≡◌, Result, Err, sym, ap, ◌∙◌}
use Rattle.mq_values.specs.Answers.{Gives}
use Rattle.mq_values.specs.declared.memory.Fail.{Fail}
use Rattle.mq_values.specs.declared.memory.Fail.TheVariants as fail

-- where each fault of the inner call is the outer one's
pub exit : {T U E : Type 0} (inner : Result T E) (outer : Result U E) (e : Fail E) → Gives {T = T} (Err e) inner → ((fault : E) → inner ≡ Err fault → outer ≡ Err fault) → Gives {T = U} (Err e) outer
exit inner outer (fail.Cause fault) h f = f fault h
exit inner outer fail.Memory h f = tt

-- what is found of one thing is found of another that is the same
pub moved : {A B : Type 0} (f : A → B) (before after : A) (r : B) → before ≡ after → f before ≡ r → f after ≡ r
moved f before after r same h = ap f (sym same) ∙ h
