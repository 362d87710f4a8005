use Rattle.std.proofs.lemmas.Result.{IfOk-weaker}
use Rattle.mq_delta_cells.specs.Walks.{model_at}
use Rattle.mq_delta_cells.proofs.CourseLemmas.{refs_known}
use Rattle.mq_delta_cells.proofs.StepLemmas.{reads_over, slot_over_is}
use Rattle.mq_delta_cells.proofs.visiting.slot_for.Goals as goal

pub slot_over-requires : goal.slot_over-requires
slot_over-requires g c = refs_known c.args.work.now.model.now c.args.work.now.course.now.refs c.requires.course.refs

pub returns-clause-exact : goal.returns-clause-exact
returns-clause-exact g c =
    let work = c.args.work.now in
    let course = work.course.now in
    IfOk-weaker c.slot_over.result _ _
    (λ slot is rule at.
    slot_over_is (model_at work) work.shape.now course.cells course.base (g.C.Cells.input c.args.cells.now) (g.C.Cells.results c.args.cells.now) c.args.a.now
    c.rule_of-rule.result.now rule slot c.requires.course.cells c.requires.course.base c.rule_of-rule.ensures is at) c.slot_over.ensures.exact

pub returns-clause-reads : goal.returns-clause-reads
returns-clause-reads g c =
    let work = c.args.work.now in
    reads_over (model_at work) work.shape.now work.course.now.cells c.args.a.now c.rule_of-rule.result.now (g.C.Cells.looks c.args.cells.now) (g.C.Cells.looks c.slot_over.new.cells)
    c.requires.course.cells c.rule_of-rule.ensures c.slot_over.ensures.reads
