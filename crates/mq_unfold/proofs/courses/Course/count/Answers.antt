use Rattle.std.proofs.Common.{sym, ◌∙◌}
use Rattle.std.specs.Prelude.{length}
use Rattle.mq_unfold.specs.Steps.{course_places}
use Rattle.mq_unfold.proofs.StepLemmas.{course_counted, steps_capped}
use Rattle.mq_unfold.proofs.courses.Course.count.Goals as goal

pub returns-in-Some : goal.returns-in-Some
returns-in-Some c =
    let course = c.args.self.now in
    steps_capped (length (course_places c.args.down course)) c.in-Some.last c.min.result
    (course_counted c.args.down course c.in-Some.last (sym c.last.ensures ∙ c.in-Some.is)) c.min.ensures
