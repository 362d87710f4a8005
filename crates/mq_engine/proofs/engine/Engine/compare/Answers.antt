use Rattle.std.proofs.Common.{Bool, sym}
use Rattle.mq_ir.specs.declared.catalog.View.{View}
use Rattle.mq_ir.specs.Tables.{is_name}
use Rattle.mq_ir.specs.Ready.{QueryIsReady}
use Rattle.mq_answers.specs.FoundLaws.{all_found}
use Rattle.mq_engine.proofs.StateLemmas.{compared_is}
use Rattle.mq_engine.proofs.engine.Engine.compare.Goals as goal

pub compared_beside_each-requires-clause-ready : goal.compared_beside_each-requires-clause-ready
compared_beside_each-requires-clause-ready g c κs within =
    let is_wanted : View → Bool = λ v. is_name v.name c.args.view.now in
    all_found is_wanted (λ (v : View). QueryIsReady v.query) c.self.inside.catalog.views c.in-Some.found.now c.self.invariant.1 (sym c.in-Some.ensures)

pub returns-in_ok-compared_beside_each-in-Some : goal.returns-in_ok-compared_beside_each-in-Some
returns-in_ok-compared_beside_each-in-Some g c =
    compared_is c.self.inside.tables c.self.inside.catalog c.self.inside.block c.args.self.now c.self.view_is c.args.view.now c.args.names.now c.in-Some.found.now
    c.in_ok-compared_beside_each-in-Some.field-0.items c.in-Some.ensures c.in_ok-compared_beside_each-in-Some.ensures

pub compared_beside_each-requires-clause-kept : goal.compared_beside_each-requires-clause-kept
compared_beside_each-requires-clause-kept g c κs within =
    c.get-in-Some.ensures c.self.inside.tables c.self.inside.catalog.views c.self.invariant.3 c.in-Some.found.now (sym c.in-Some.ensures)
