use Rattle.std.proofs.Common.{subst, ◌≡◌, List, sym, ◌∙◌}
use Rattle.std.specs.Result.{IfOk}
use Rattle.mq_ir.specs.declared.query.SinglePlace.{SinglePlace}
use Rattle.mq_unfold.proofs.StepLemmas.{course_with}
use Rattle.mq_unfold.proofs.courses.Course.places.Goals as goal

pub returns-in-Some : goal.returns-in-Some
returns-in-Some c =
    subst (λ (q : List SinglePlace). IfOk c.walked.result (λ places. places ≡ q))
    (sym (course_with c.args.down c.args.self.now c.in-Some.last (sym c.last.ensures ∙ c.in-Some.is))) c.walked.ensures
