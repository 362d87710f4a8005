use Rattle.std.proofs.Common.{◌≡◌, ◌++◌, drop, map}
use Rattle.mq_ir.specs.Unfolding.{model_of}
use Rattle.mq_delta_cells.specs.Courses.{looks_among}
use Rattle.mq_delta_cells.proofs.course.all_looks.Given as goal

abbrev pub invariant-loop-a : goal.invariant-loop-a
invariant-loop-a l = l.looks ++ map (looks_among (model_of l.m) l.cells) (drop l.a-index l.assigned) ≡ map (looks_among (model_of l.m) l.cells) l.assigned
