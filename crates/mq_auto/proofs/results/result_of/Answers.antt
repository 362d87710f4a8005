use Rattle.std.proofs.Common.{ap, subst, ◌∙◌}
use Rattle.std.specs.Prelude.{◌≡◌, IfOk}
use Rattle.std.proofs.lemmas.Result.{IfOk-weaker}
use Rattle.mq_ir.specs.declared.query.PartResult.TheVariants.{Rows}
use Rattle.mq_ir.specs.Slots.{Slots}
use Rattle.mq_ir.specs.Unfolding.{model_of}
use Rattle.mq_auto.specs.Meaning.{result_with}
use Rattle.mq_auto.proofs.FaultLemmas.{cells_are, fault_is}
use Rattle.mq_auto.proofs.NodeLemmas.{held_slots}
use Rattle.mq_auto.proofs.results.result_of.Goals as goal

pub returns-in-Some-clause-exact : goal.returns-in-Some-clause-exact
returns-in-Some-clause-exact g c =
    IfOk-weaker c.fault_at.result _ _
    (λ r is. fault_is (g.C.Cells.input c.args.cells.now) (g.C.Cells.results c.args.cells.now) (model_of c.args.m.now) c.args.key.now c.args.s.now c.in-Some.at r c.in-Some.ensures is) c.fault_at.ensures.exact

pub returns-in-Some-clause-automatic : goal.returns-in-Some-clause-automatic
returns-in-Some-clause-automatic g c =
    let model = model_of c.args.m.now in
    let s = c.args.s.now in
    λ input held.
    subst (λ (slots : Slots). IfOk c.fault_at.result (λ r. r ≡ result_with model c.args.key.now s slots))
    (held_slots model s input (g.C.Cells.input c.args.cells.now) (g.C.Cells.results c.args.cells.now) held) (returns-in-Some-clause-exact g c)

pub returns-in_ok-rows-in-None-clause-exact : goal.returns-in_ok-rows-in-None-clause-exact
returns-in_ok-rows-in-None-clause-exact g c =
    ap Rows c.in_ok-rows-in-None.ensures.exact
    ∙ cells_are (g.C.Cells.input c.args.cells.now) (g.C.Cells.results c.args.cells.now) (model_of c.args.m.now) c.args.key.now c.args.s.now c.in-None.ensures

pub returns-in_ok-rows-in-None-clause-automatic : goal.returns-in_ok-rows-in-None-clause-automatic
returns-in_ok-rows-in-None-clause-automatic g c =
    let model = model_of c.args.m.now in
    let s = c.args.s.now in
    λ input held.
    returns-in_ok-rows-in-None-clause-exact g c
    ∙ ap (result_with model c.args.key.now s) (held_slots model s input (g.C.Cells.input c.args.cells.now) (g.C.Cells.results c.args.cells.now) held)
