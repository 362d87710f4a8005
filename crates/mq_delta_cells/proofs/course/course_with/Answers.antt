use Rattle.std.proofs.Common.{refl}
use Rattle.mq_delta_cells.proofs.CourseLemmas.{refs_told}
use Rattle.mq_delta_cells.proofs.course.course_with.Goals as goal

pub returns : goal.returns
returns c = record {
  own = c.requires.own;
  ruled = c.requires.ruled;
  base = c.requires.base;
  cells = c.requires.cells;
  rounds = c.requires.rounds;
  looks = c.requires.looks;
  readers = λ d place h. refl;
  rules = c.in_ok-rules.ensures;
  refs = refs_told c.args.m.now c.refs_order.result c.refs_order.ensures;
}
