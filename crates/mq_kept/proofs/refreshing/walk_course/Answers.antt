use Rattle.mq_kept.proofs.refreshing.walk_course.Goals as goal

pub propagate_values-requires : goal.propagate_values-requires
propagate_values-requires c = record { course = rw c.in-Some.is at c.requires.shared.course }
