use Rattle.std.proofs.Common.{[], Option, ap, sym, ◌∙◌}
use Rattle.std.specs.Option.{option_map_or}
use Rattle.std.proofs.lemmas.Result.{IfOk-weaker}
use Rattle.mq_unfold.specs.declared.courses.Course.{Course}
use Rattle.mq_unfold.specs.Steps.{course_places}
use Rattle.mq_unfold.proofs.StepLemmas.{steps_are}
use Rattle.mq_unfold.proofs.steps.Steps.places.Goals as goal

pub returns-in-Some : goal.returns-in-Some
returns-in-Some c =
    let self = c.args.self.now in
    IfOk-weaker c.places.result _ _
    (λ places h.
    h ∙ ap (λ (o : Option Course). option_map_or (course_places self.down) o []) c.in-Some.ensures.course ∙ sym (steps_are self.down self.start self.stop self.step))
    c.places.ensures
