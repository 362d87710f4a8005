use Rattle.std.proofs.Common.{List, map, ap, ◌∙◌}
use Rattle.mq_ir.specs.Keys.{Tuple}
use Rattle.mq_ir.specs.Unfolding.{model_of}
use Rattle.mq_delta_cells.specs.Courses.{looks_among}
use Rattle.mq_delta_cells.proofs.course.course_of.Goals as goal

pub course_with-requires-clause-looks : goal.course_with-requires-clause-looks
course_with-requires-clause-looks c =
    c.in_ok-looks.ensures ∙ ap (λ (set : List Tuple). map (looks_among (model_of c.args.m.now) set) c.args.shape.now.assigned) c.requires.cells
