use Rattle.std.proofs.Common.{ap, subst}
use Rattle.mq_ir.specs.Unfolding.{model_of}
use Rattle.mq_cells.specs.IndexedStores.{results_of}
use Rattle.mq_cells.specs.Stores.{Results}
use Rattle.mq_lineage.specs.Telling.{Tells}
use Rattle.mq_lineage.proofs.AcceptLemmas.{take_end, take_next, take_start, take_stop}
use Rattle.mq_lineage.proofs.checking.are_accepted.Goals as goal

pub steps-init : goal.steps-init
steps-init c =
    take_start (model_of c.args.m.now) c.args.s.now c.args.input.now c.args.steps.now (results_of c.args.cells.now)
    (λ name. ap (λ (results : Results). results name) c.requires.empty)

pub returns-then-not-branch : goal.returns-then-not-branch
returns-then-not-branch c =
    let w = c.steps.invariant in
    take_stop (model_of c.args.m.now) c.args.s.now c.args.input.now c.args.steps.now c.steps.step-index (results_of c.steps.cells) c.step-item.result c.steps-test.true c.step-item.is w
    c.in_ok-is_accepted.field-0 (c.in_ok-is_accepted.ensures.exact w.earlier w.told) c.if-not-branch.true

pub steps-preserved : goal.steps-preserved
steps-preserved c =
    let w = c.steps.invariant in
    take_next (model_of c.args.m.now) c.args.s.now c.args.input.now c.args.steps.now c.steps.step-index (results_of c.steps.cells) c.step-item.result c.steps-test.true c.step-item.is w
    c.in_ok-is_accepted.field-0 (results_of c.tell.new.cells) (c.in_ok-is_accepted.ensures.exact w.earlier w.told) c.if-not-branch.false
    (subst (λ (before : Results). Tells c.step-item.result before (results_of c.tell.new.cells)) c.in_ok-is_accepted.ensures.same_results c.in_ok-tell.ensures)

pub returns : goal.returns
returns c =
    take_end (model_of c.args.m.now) c.args.s.now c.args.input.now c.args.steps.now c.steps.step-index (results_of c.steps.cells) c.steps-test.false c.steps.invariant
