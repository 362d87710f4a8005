use Rattle.std.proofs.Common.{ap, subst, sym}
use Rattle.mq_ir.specs.Unfolding.{model_of}
use Rattle.mq_auto.specs.Findings.{IsLevelled}
use Rattle.mq_auto_shape.specs.declared.indexed.IndexedShape.{IndexedShape}
use Rattle.mq_kept.proofs.refreshing.walked_over.Goals as goal

pub course_for_walk-requires : goal.course_for_walk-requires
course_for_walk-requires c =
    record { own = c.requires.own; ruled = c.requires.ruled; rounds = c.requires.rounds; base = c.requires.indexed.base; cells = c.requires.indexed.cells }

pub returns-clause-same : goal.returns-clause-same
returns-clause-same c = ap (λ (it : IndexedShape). it.shape) c.indexed_by.ensures

pub returns-clause-levelled : goal.returns-clause-levelled
returns-clause-levelled c =
    let course = c.in_ok-course.ensures in
    subst (IsLevelled (model_of c.args.m.now)) (sym c.indexed_by.ensures)
    (record {
      exact = c.requires.exact;
      own = c.requires.own;
      ruled = c.requires.ruled;
      few = c.requires.few;
      rounds = course.rounds;
      indexed = record { base = course.base; cells = course.cells };
    })

pub returns-clause-walked : goal.returns-clause-walked
returns-clause-walked c = c.in_ok-walk_shapes.ensures
