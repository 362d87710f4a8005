use Rattle.std.proofs.Common.{ap, ◌∙◌}
use Rattle.std.proofs.lemmas.Result.{IfOk-weaker}
use Rattle.mq_ir.specs.declared.query.PartResult.TheVariants.{Rows}
use Rattle.mq_ir.specs.Unfolding.{model_of}
use Rattle.mq_cells.specs.IndexedStores.{input_in, results_of}
use Rattle.mq_auto.specs.Meaning.{result_with}
use Rattle.mq_auto.proofs.FaultLemmas.{cells_are, fault_is}
use Rattle.mq_auto.proofs.NodeLemmas.{held_slots}
use Rattle.mq_auto.proofs.RowLemmas.{stand_assigned}
use Rattle.mq_auto.proofs.stored.stored_result.Goals as goal

pub stored_rows-requires : goal.stored_rows-requires
stored_rows-requires c = stand_assigned (model_of c.args.m.now) c.args.s.now c.args.p.now.cells (input_in c.args.cells.now) (results_of c.args.cells.now) c.requires.held

pub returns-in-Some-clause-exact : goal.returns-in-Some-clause-exact
returns-in-Some-clause-exact c =
    let model = model_of c.args.m.now in
    let s = c.args.s.now in
    let p = c.args.p.now in
    let input = input_in c.args.cells.now in
    let results = results_of c.args.cells.now in
    IfOk-weaker c.fault_at.result _ _
    (λ r is. fault_is input results model p.key s c.in-Some.at r c.in-Some.ensures is ∙ ap (result_with model p.key s) (held_slots model s p.cells input results c.requires.held)) c.fault_at.ensures.exact

pub returns-in_ok-stored_rows-in-None-clause-exact : goal.returns-in_ok-stored_rows-in-None-clause-exact
returns-in_ok-stored_rows-in-None-clause-exact c =
    let model = model_of c.args.m.now in
    let s = c.args.s.now in
    let p = c.args.p.now in
    let input = input_in c.args.cells.now in
    let results = results_of c.args.cells.now in
    ap Rows c.in_ok-stored_rows-in-None.ensures ∙ cells_are input results model p.key s c.in-None.ensures
    ∙ ap (result_with model p.key s) (held_slots model s p.cells input results c.requires.held)
