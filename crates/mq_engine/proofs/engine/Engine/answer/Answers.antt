use Rattle.std.proofs.Common.{Bool, sym}
use Rattle.mq_ir.specs.declared.catalog.View.{View}
use Rattle.mq_ir.specs.Tables.{is_name}
use Rattle.mq_ir.specs.Ready.{QueryIsReady}
use Rattle.mq_answers.specs.FoundLaws.{all_found}
use Rattle.mq_engine.proofs.engine.Engine.answer.Goals as goal

pub answer_of-requires-clause-named : goal.answer_of-requires-clause-named
answer_of-requires-clause-named g c κs within = sym c.in-Some.ensures

pub answer_of-requires-clause-ready : goal.answer_of-requires-clause-ready
answer_of-requires-clause-ready g c κs within =
    let is_wanted : View → Bool = λ v. is_name v.name c.args.view.now in
    all_found is_wanted (λ (v : View). QueryIsReady v.query) c.self.inside.catalog.views c.in-Some.found.now c.self.invariant.1 (sym c.in-Some.ensures)

pub answer_of-requires-clause-standing : goal.answer_of-requires-clause-standing
answer_of-requires-clause-standing g c κs within = c.self.invariant.3
